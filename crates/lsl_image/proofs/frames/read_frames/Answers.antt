use Rattle.std.proofs.Common.{◌≡◌, ◌<◌, ◌++◌, ◌∷◌, [], ap, sym, arith, length, length-append, Ok, Err}
use Rattle.lsl_code.specs.Packs.{Packed}
use Rattle.lsl_image.specs.Rest.{callee_of, frame_behind}
use Rattle.lsl_image.proofs.ChargeLemmas.{frames-more, frames-none}
use Rattle.lsl_image.proofs.FrameLemmas.{callee-after, frame-behind}
use Rattle.lsl_image.proofs.LeadingLemmas.{leads-full, leads-more, leads-start, leads-stops}
use Rattle.lsl_image.proofs.frames.read_frames.Goals as goal

pub loop-i-init : goal.loop-i-init
loop-i-init c =
    let none = ap (λ (p : Packed). p.frames) c.in_ok-pack.ensures in
    record {
      many = ap length none;
      callee = sym (ap callee_of none);
      leads = leads-start c.args.bytes.now (frame_behind c.args.unit.now c.args.handler c.args.count) c.args.count
          c.args.place _ none;
      charged = frames-none c.in_ok-pack.pack.frames none;
      room = c.new-room.ensures.items;
    }

pub read_frame-requires : goal.read_frame-requires
read_frame-requires c = c.loop-i.invariant.room

pub loop-i-preserved : goal.loop-i-preserved
loop-i-preserved c =
    let within : c.loop-i.i < c.args.count = c.loop-i-test.true in
    let pushed : c.push.new.self.frames ≡ c.loop-i.pack.frames ++ c.in_ok-frame.frame ∷ [] =
    ap (λ (p : Packed). p.frames) c.in_ok-emptied.ensures.pushed in
    record {
      many = omega (
        arith,
        ap length pushed,
        length-append c.loop-i.pack.frames
            (c.in_ok-frame.frame ∷ []),
        c.loop-i.invariant.many,
      );
      callee = callee-after c.loop-i.pack.frames c.push.new.self.frames c.in_ok-frame.frame pushed;
      leads = leads-more (frame_behind c.args.unit.now c.args.handler c.args.count) c.loop-i.pack.frames
          c.push.new.self.frames c.args.count c.loop-i.i c.in_ok-frame.frame within pushed c.loop-i.invariant.leads
          (frame-behind c.args.bytes.now c.args.unit.now c.args.handler c.args.count c.loop-i.i c.loop-i.callee
          c.loop-i.pack.frames c.loop-i.next (Ok (c.in_ok-frame.frame, c.in_ok-frame.behind))
          c.loop-i.invariant.many c.loop-i.invariant.callee c.in_ok-frame.ensures.reads);
      charged = frames-more 0 c.loop-i.sum c.loop-i.pack.frames c.push.new.self.frames
          c.in_ok-frame.frame _ pushed c.in_ok-frame.ensures.charged c.loop-i.invariant.charged;
      room = c.in_ok-emptied.ensures.room;
    }

pub returns-in_err-frame-clause-reads : goal.returns-in_err-frame-clause-reads
returns-in_err-frame-clause-reads c =
    leads-stops (frame_behind c.args.unit.now c.args.handler c.args.count) c.loop-i.pack.frames c.args.count
    c.loop-i.i _ _ c.loop-i-test.true c.loop-i.invariant.leads
    (frame-behind c.args.bytes.now c.args.unit.now c.args.handler c.args.count c.loop-i.i c.loop-i.callee
    c.loop-i.pack.frames c.loop-i.next (Err c.in_err-frame.field-0.0) c.loop-i.invariant.many
    c.loop-i.invariant.callee c.in_err-frame.ensures.reads) c.from_residual-in_err-frame.ensures.1

pub returns-clause-reads : goal.returns-clause-reads
returns-clause-reads c = rw c.from_pack.ensures
    (leads-full (frame_behind c.args.unit.now c.args.handler c.args.count) c.loop-i.pack.frames c.args.count
    c.loop-i.i c.loop-i-test.false c.loop-i.invariant.leads)
