use Rattle.std.proofs.Common.{◌≡◌, ◌∙◌, refl, sym, subst, List, length}
use Rattle.lsl_handoff.specs.declared.card.Card.{Card}
use Rattle.lsl_lines.specs.declared.file.Step.{Step}
use Rattle.lsl_lines.specs.declared.file.Step.TheVariants.{Cross}
use Rattle.lsl_handoff.specs.Entries.{AreAllPast}
use Rattle.lsl_world.specs.Kept.{regions_of}
use Rattle.lsl_world.specs.Orders.{AreInOrder, Hands, SendsOfStep}
use Rattle.lsl_world.specs.Programs.{rules_of}
use Rattle.lsl_world.specs.Stands.{IsOf}
use Rattle.lsl_world.proofs.Lossy.{hands-does, here-unless, sends-other}
use Rattle.lsl_world.proofs.world.World.step_by.Goals as goal

pub returns-in-None-clause-goes : goal.returns-in-None-clause-goes
returns-in-None-clause-goes g c =
    let (trips, went, does) = c.do_step.ensures.goes in (
      trips,
      went,
      λ none. does,
      λ old is. absurd (let no = sym c.in-None.is ∙ is in cc),
    )

pub returns-in_default-clause-goes : goal.returns-in_default-clause-goes
returns-in_default-clause-goes g c =
    let world = c.args.self.now in
    let (trips, went, does) = c.do_step-in_default.ensures.goes in (
      trips,
      went,
      λ none. does,
      λ old is. (
        old,
        is,
        λ programs w entries of order past carried.
            hands-does world.units (rules_of programs) (IsOf programs c.do_step-in_default.new.self)
            c.args.regions.now old
            c.args.step.now (here-unless c.args.step.now (λ object region e. c.in_default.not-Cross object region e)) w
            entries trips c.args.out.now
            c.do_step-in_default.new.out c.do_step-in_default.result order past (does programs w of),
        λ programs w of. sends-other world.units c.args.regions.now world.grid c.args.step.now
            (here-unless c.args.step.now (λ object region e. c.in_default.not-Cross object region e)) w trips
            c.do_step-in_default.result
            (does programs w of).sent,
      ),
    )

pub returns-in-Some-clause-goes : goal.returns-in-Some-clause-goes
returns-in-Some-clause-goes g c =
    let world = c.args.self.now in
    let (trips, went, hands, sends) = c.hand.ensures.goes in (
      trips,
      went,
      λ none. absurd (let no = sym c.in-Some.is ∙ none in cc),
      λ old is. (
        c.hand.new.field,
        refl,
        λ programs w entries of order past carried.
            (let same : c.in-Some.field ≡ old = (let e = sym c.in-Some.is ∙ is in cc) in
            subst (λ (s : Step). Hands world.units (rules_of programs) (IsOf programs c.hand.new.self)
            c.args.regions.now old
            c.hand.new.field s w entries trips c.args.out.now c.hand.new.out c.hand.result) (sym c.in-Cross.is)
            (subst (λ (cs : List (List Card)). Hands world.units (rules_of programs) (IsOf programs c.hand.new.self)
            c.args.regions.now cs c.hand.new.field (Cross c.in-Cross.object c.in-Cross.region) w entries trips
            c.args.out.now c.hand.new.out c.hand.result) same
            (hands programs w entries of
            (subst (λ (cs : List (List Card)). AreInOrder c.args.regions.now cs (regions_of w)) (sym same) order)
            (subst (λ (cs : List (List Card)). AreAllPast (length w.objects) (length c.args.regions.now) cs entries)
            (sym same) past) carried))),
        λ programs w of. subst (λ (s : Step). SendsOfStep world.units c.args.regions.now world.grid s trips)
            (sym c.in-Cross.is) sends,
      ),
    )

pub returns-in-None-clause-comes : goal.returns-in-None-clause-comes
returns-in-None-clause-comes g c = λ none. c.do_step.ensures.comes

pub returns-in_default-clause-comes : goal.returns-in_default-clause-comes
returns-in_default-clause-comes g c = λ none. c.do_step-in_default.ensures.comes

pub returns-in-Some-clause-comes : goal.returns-in-Some-clause-comes
returns-in-Some-clause-comes g c = λ none. absurd (let no = sym c.in-Some.is ∙ none in cc)
