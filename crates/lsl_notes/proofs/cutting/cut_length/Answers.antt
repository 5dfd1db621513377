use Rattle.std.proofs.Common.{arith}
use Rattle.std.proofs.lemmas.Iterator.{YieldsList-from_chars}
use Rattle.std.proofs.lemmas.Iterator.Consumers.{YieldsList-turn, YieldsList-end}
use Rattle.std.proofs.lemmas.List.{length_push}
use Rattle.std.specs.Str.{chars}
use Rattle.lsl_notes.proofs.CutBytes.{cut_turn, cut_end, cut_all, within_text}
use Rattle.lsl_notes.proofs.cutting.cut_length.Goals as goal

pub returns-then-longer-room-clause-cut : goal.returns-then-longer-room-clause-cut
returns-then-longer-room-clause-cut c =
    let t = YieldsList-turn (YieldsList-from_chars c.args.text.now c.utf8.text cc) c.loop-c.yielded _
    c.loop-c.yielded_by _ _ c.in-Some.c c.in-Some.is c.next.ensures.steps in
    cut_end c.args.room (chars c.args.text.now) _ c.in-Some.c c.len_utf8.result c.loop-c.length _ t
    c.len_utf8.ensures.value c.loop-c.invariant.within c.if-longer-room.true c.loop-c.invariant.whole

pub returns-then-longer-room-clause-within : goal.returns-then-longer-room-clause-within
returns-then-longer-room-clause-within c =
    within_text c.args.room c.args.text.now c.loop-c.length c.utf8.text
    (returns-then-longer-room-clause-cut c)

pub loop-c-preserved : goal.loop-c-preserved
loop-c-preserved c =
    let t = YieldsList-turn (YieldsList-from_chars c.args.text.now c.utf8.text cc) c.loop-c.yielded _
    c.loop-c.yielded_by _ _ c.in-Some.c c.in-Some.is c.next.ensures.steps in
    record {
      within = c.if-longer-room.false;
      whole = cut_turn c.args.room (chars c.args.text.now) _ _ c.in-Some.c c.len_utf8.result c.loop-c.length _ t
          (length_push c.loop-c.yielded c.in-Some.c) c.len_utf8.ensures.value
          c.if-longer-room.false c.loop-c.invariant.whole;
    }

pub returns-clause-cut : goal.returns-clause-cut
returns-clause-cut c =
    let t = YieldsList-end (YieldsList-from_chars c.args.text.now c.utf8.text cc) c.loop-c.yielded _
    c.loop-c.yielded_by _ _ c.in-None.is c.next.ensures.steps in
    cut_all c.args.room (chars c.args.text.now) _ c.loop-c.length _ (omega (arith, t.1))
    c.loop-c.invariant.whole

pub returns-clause-within : goal.returns-clause-within
returns-clause-within c =
    within_text c.args.room c.args.text.now c.loop-c.length c.utf8.text (returns-clause-cut c)
