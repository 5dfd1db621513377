use Rattle.std.proofs.Common.{◌≡◌, ◌∙◌, ℕ, ◌++◌, ap, subst, sym}
use Rattle.std.specs.Prelude.{Option, Some, None}
use Rattle.std.proofs.lemmas.Result.{MatchResult-from_err}
use Rattle.lsl_machine.specs.State.{CanRun}
use Rattle.lsl_post.specs.Journal.{Part}
use Rattle.lsl_script.specs.declared.live.Live.{Live}
use Rattle.lsl_script.specs.Awake.{IsAwake, taken_by}
use Rattle.lsl_script.specs.Codes.{HasUnit}
use Rattle.lsl_script.specs.Lives.{entries_of_taking}
use Rattle.lsl_script.specs.Waking.{StandsWoken, WakesAs}
use Rattle.lsl_region.specs.declared.grid.Seat.{Seat}
use Rattle.lsl_region.specs.Grids.{AreSeated, Contents, FitsSeat}
use Rattle.lsl_region.specs.Segments.{taken}
use Rattle.lsl_region.specs.Turning.{IsOut}
use Rattle.lsl_region.proofs.Coming.{seated-with}
use Rattle.lsl_region.proofs.Placed.{sits}
use Rattle.lsl_region.proofs.Seats.{seated-unit}
use Rattle.lsl_region.proofs.Stops.{taken-part, taken-told}
use Rattle.lsl_region.specs.Scenes.{IsBegun}
use Rattle.lsl_region.proofs.Scenes.{set-kept}
use Rattle.lsl_region.proofs.grid.Grid.begin.Goals as goal

pub wake_at-requires-clause-fits : goal.wake_at-requires-clause-fits
wake_at-requires-clause-fits c = λ seat sits.
    let scene = c.args.scene.now in
    let k = c.requires.set.unit in
    let same : Some k.seat ≡ Some seat = sym k.at ∙ sits in
    let is : k.seat ≡ seat = cc in
    subst (λ (s : Seat). FitsSeat scene.unit.now s.script) is
    (seated-unit scene.library.now k.seat scene.unit.now (c.requires.set.seated scene.place k.seat k.at) (sym k.has))

pub wake_at-requires-clause-ready : goal.wake_at-requires-clause-ready
wake_at-requires-clause-ready c = (c.args.scene.now.clock, c.requires.ready)

pub wake_at-requires-clause-weaves : goal.wake_at-requires-clause-weaves
wake_at-requires-clause-weaves c = c.requires.set.unit.weaves

pub returns-in_err-tell_taken-clause-does : goal.returns-in_err-tell_taken-clause-does
returns-in_err-tell_taken-clause-does c = λ m w st.
    let scene = c.args.scene.now in
    let k = c.requires.set.unit in
    let s = sits scene.library.now None scene.clock c.args.self.now w st scene.place k.seat k.at in
    let has : HasUnit scene.library.now s.member.script.code scene.unit.now
    = subst (λ (n : ℕ). HasUnit scene.library.now n scene.unit.now) (ap (λ (z : Seat). z.unit) s.is) k.has in
    let wakes = subst (λ (o : Option Live). IsOut o (WakesAs scene.library.now scene.unit.now s.member.script))
    c.in-Some.is
    (c.in_ok-wake_at.ensures.source k.seat scene.library.now s.member.script k.at has (ap (λ (z : Seat). z.script)
    s.is)
    (st.scripts scene.place s.member s.at).lawful) in
    MatchResult-from_err c.from_residual-in_err-tell_taken.result _ _ c.from_residual-in_err-tell_taken.ensures.0
    (λ y. taken-part scene.library.now scene.unit.now scene.clock scene.place c.args.self.now w s.member k.seat st
    s.at k.at
    c.in-Some.live wakes c.args.out.now c.tell_taken.new.out
    (subst (λ (n : ℕ). Part c.args.out.now c.tell_taken.new.out (entries_of_taking n (taken_by c.in-Some.live)))
    c.number.ensures c.in_err-tell_taken.ensures))

pub returns-clause-does : goal.returns-clause-does
returns-clause-does c = λ m w st.
    let scene = c.args.scene.now in
    let k = c.requires.set.unit in
    let s = sits scene.library.now None scene.clock c.args.self.now w st scene.place k.seat k.at in
    let has : HasUnit scene.library.now s.member.script.code scene.unit.now
    = subst (λ (n : ℕ). HasUnit scene.library.now n scene.unit.now) (ap (λ (z : Seat). z.unit) s.is) k.has in
    let wakes = subst (λ (o : Option Live). IsOut o (WakesAs scene.library.now scene.unit.now s.member.script))
    c.in-Some.is
    (c.in_ok-wake_at.ensures.source k.seat scene.library.now s.member.script k.at has (ap (λ (z : Seat). z.script)
    s.is)
    (st.scripts scene.place s.member s.at).lawful) in
    subst (λ (g : Contents). IsBegun scene g c.in-Some.live (taken scene.place w).value
    × (c.tell_taken.new.out ≡ c.args.out.now ++ (taken scene.place w).entries))
    (sym (c.wake_at.ensures.seats k.seat k.at))
    (taken-told scene.library.now scene.unit.now scene.clock scene.place c.args.self.now w s.member k.seat st s.at
    k.at
    c.in-Some.live wakes c.args.out.now c.tell_taken.new.out
    (subst (λ (n : ℕ). c.tell_taken.new.out ≡ c.args.out.now ++ entries_of_taking n (taken_by c.in-Some.live))
    c.number.ensures c.in_ok-tell_taken.ensures))

pub returns-clause-awake : goal.returns-clause-awake
returns-clause-awake c =
    subst (λ (o : Option Live). IsOut o (IsAwake c.args.scene.now.unit.now)) c.in-Some.is
    c.in_ok-wake_at.ensures.awake

pub returns-clause-able : goal.returns-clause-able
returns-clause-able c =
    subst (λ (o : Option Live). IsOut o (λ live. CanRun live.machine.standing)) c.in-Some.is
    c.in_ok-wake_at.ensures.able

pub returns-clause-stands : goal.returns-clause-stands
returns-clause-stands c = subst (λ (o : Option Live). IsOut o StandsWoken) c.in-Some.is c.in_ok-wake_at.ensures.stands

pub returns-clause-grid : goal.returns-clause-grid
returns-clause-grid c =
    let scene = c.args.scene.now in
    let k = c.requires.set.unit in
    record {
      set = set-kept c.requires.set c.wake_at.ensures.outline
          (subst (λ (g : Contents). AreSeated scene.library.now g.seats)
          (sym (c.wake_at.ensures.seats k.seat k.at))
          (seated-with scene.library.now scene.unit.now c.args.self.now scene.place
          k.seat None c.requires.set.seated k.at k.has tt));
      outline = c.wake_at.ensures.outline;
    }
