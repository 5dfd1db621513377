use Rattle.std.proofs.Common.{◌≡◌, ◌∙◌, refl, ap, subst, arith, suc, ◌+◌, ◌-◌, ◌++◌, ◌∷◌, [], List, length, Some, Result, Ok, Err, OnOk, slice_get, rules}
use Rattle.std.proofs.lemmas.Option.{slice_get-map}
use Rattle.std.specs.Prelude.{option_map}
use Rattle.lsl_code.specs.declared.frames.Frame.{Frame}
use Rattle.lsl_code.specs.Packs.{packed}
use Rattle.lsl_code.specs.Saving.{frame_of, save_act}
use Rattle.lsl_code.proofs.Packing.{on_ok}
use Rattle.lsl_code.specs.Weaves.{bodies_of}
use Rattle.lsl_code.specs.WovenBodies.{woven_body}
use Rattle.lsl_machine.specs.CallsSaved.{DidKeep, call_of, low_of}
use Rattle.lsl_machine.proofs.Keeping.{IsSealing, with_slots, has_instr, can_keep, keeps_on, is_sealed}
use Rattle.lsl_machine.proofs.Sealing.{begins, low_is, place_short, closes}
use Rattle.lsl_machine.proofs.saving.Saver.seal.Goals as goal

on_ok_all : {T E P : Type 0} (r : Result T E) → P → OnOk r P
on_ok_all (Ok x) p = p
on_ok_all (Err e) p = tt

pub loop-i-init : goal.loop-i-init
loop-i-init c =
    let w = woven_body c.in-Some.function.now in
    let there : slice_get c.args.unit.now.functions c.args.self.now.active.function ≡ Some c.in-Some.function.now =
    search rules in
    let found : slice_get (bodies_of c.args.unit.now) c.args.self.now.active.function ≡ Some w =
    slice_get-map woven_body c.args.unit.now.functions c.args.self.now.active.function
    ∙ ap (option_map woven_body) there in
    let n : length w.code ≡ c.len-end.result - 0 = omega arith in
    record {
      found = found;
      way = subst (λ m. IsSealing (bodies_of c.args.unit.now) w (call_of c.args.self.now) (low_of c.args.self.now) m
          c.args.self.now) n (begins c.args.unit.now c.args.self.now c.requires w found);
      frames = refl;
    }

pub unreachable-requires-in_default-get : goal.unreachable-requires-in_default-get
unreachable-requires-in_default-get c =
    let bodies = bodies_of c.args.unit.now in
    let w = woven_body c.in-Some.function.now in
    let start = call_of c.args.self.now in
    let low = low_of c.args.self.now in
    let left = c.len-end.result - (c.loop-i.i + 1) in
    let inv = c.loop-i.invariant in
    let n : c.len-end.result - c.loop-i.i ≡ suc left = omega arith in
    let x = subst (λ m. IsSealing bodies w start low m c.loop-i.self) n inv.way in
    has_instr bodies w start low left c.loop-i.self x inv.found (search rules)

pub keep-requires : goal.keep-requires
keep-requires c =
    let bodies = bodies_of c.args.unit.now in
    let w = woven_body c.in-Some.function.now in
    let start = call_of c.args.self.now in
    let low = low_of c.args.self.now in
    let left = c.len-end.result - (c.loop-i.i + 1) in
    let inv = c.loop-i.invariant in
    let n : c.len-end.result - c.loop-i.i ≡ suc left = omega arith in
    let x = subst (λ m. IsSealing bodies w start low m c.loop-i.self) n inv.way in
    let there : slice_get w.code c.loop-i.self.active.place ≡ Some c.in-Some-get.instr.now = search rules in
    let i = c.in-Some-get.instr.now in
    let short = place_short c.args.unit.now c.args.self.now.active.function w c.loop-i.self.active.place i inv.found
    there in
    can_keep bodies w start low left c.loop-i.self x inv.found i there short

pub returns-in-Some-2-clause-frame : goal.returns-in-Some-2-clause-frame
returns-in-Some-2-clause-frame c =
    let bodies = bodies_of c.args.unit.now in
    let w = woven_body c.in-Some.function.now in
    let start = call_of c.args.self.now in
    let low = low_of c.args.self.now in
    let left = c.len-end.result - (c.loop-i.i + 1) in
    let inv = c.loop-i.invariant in
    let n : c.len-end.result - c.loop-i.i ≡ suc left = omega arith in
    let x = subst (λ m. IsSealing bodies w start low m c.loop-i.self) n inv.way in
    let there : slice_get w.code c.loop-i.self.active.place ≡ Some c.in-Some-get.instr.now = search rules in
    let i = c.in-Some-get.instr.now in
    let did = c.in_ok-point.ensures.kept low (with_slots x.c x.slots) x.hand x.lies in
    let sealed = subst (λ o. DidKeep i low (with_slots x.c x.slots) x.hand
    (save_act (Some i) (with_slots x.c x.slots) x.hand) o c.keep.new.self) c.in-Some-2.is did in
    let frame = frame_of c.keep.new.self.active.function c.in-Some-2.point c.keep.new.self.pack.hand in
    let is = closes bodies w start low left c.loop-i.self c.keep.new.self x inv.found i there c.in-Some-2.point sealed
    frame refl refl refl in
    let before = c.keep.ensures.frames ∙ inv.frames in
    on_ok c.close.result
    (λ stands. (frame, stands ∙ ap (λ (l : List Frame). packed (l ++ frame ∷ []) []) before, is))
    c.close.ensures.sealed

pub returns-in-Some-2-clause-left : goal.returns-in-Some-2-clause-left
returns-in-Some-2-clause-left c =
    let bodies = bodies_of c.args.unit.now in
    let w = woven_body c.in-Some.function.now in
    let start = call_of c.args.self.now in
    let low = low_of c.args.self.now in
    let left = c.len-end.result - (c.loop-i.i + 1) in
    let inv = c.loop-i.invariant in
    let n : c.len-end.result - c.loop-i.i ≡ suc left = omega arith in
    let x = subst (λ m. IsSealing bodies w start low m c.loop-i.self) n inv.way in
    let there : slice_get w.code c.loop-i.self.active.place ≡ Some c.in-Some-get.instr.now = search rules in
    let i = c.in-Some-get.instr.now in
    let did = c.in_ok-point.ensures.kept low (with_slots x.c x.slots) x.hand x.lies in
    let sealed = subst (λ o. DidKeep i low (with_slots x.c x.slots) x.hand
    (save_act (Some i) (with_slots x.c x.slots) x.hand) o c.keep.new.self) c.in-Some-2.is did in
    let r = is_sealed bodies w start low left c.loop-i.self x inv.found i there c.in-Some-2.point c.keep.new.self
    sealed in
    on_ok_all c.close.result
    (c.close.ensures.left ∙ low_is c.keep.new.self low (with_slots x.c x.slots) x.hand r.0)

pub loop-i-preserved : goal.loop-i-preserved
loop-i-preserved c =
    let bodies = bodies_of c.args.unit.now in
    let w = woven_body c.in-Some.function.now in
    let start = call_of c.args.self.now in
    let low = low_of c.args.self.now in
    let left = c.len-end.result - (c.loop-i.i + 1) in
    let inv = c.loop-i.invariant in
    let n : c.len-end.result - c.loop-i.i ≡ suc left = omega arith in
    let x = subst (λ m. IsSealing bodies w start low m c.loop-i.self) n inv.way in
    let there : slice_get w.code c.loop-i.self.active.place ≡ Some c.in-Some-get.instr.now = search rules in
    let i = c.in-Some-get.instr.now in
    let did = c.in_ok-point.ensures.kept low (with_slots x.c x.slots) x.hand x.lies in
    let kept = subst (λ o. DidKeep i low (with_slots x.c x.slots) x.hand
    (save_act (Some i) (with_slots x.c x.slots) x.hand) o c.keep.new.self) c.in_default-2.is did in
    record {
      found = inv.found;
      way = keeps_on bodies w start low left c.loop-i.self x inv.found i there c.keep.new.self kept;
      frames = c.keep.ensures.frames ∙ inv.frames;
    }
