use Rattle.std.proofs.Common.{◌∙◌, sym, take, rules, tests}
use Rattle.std.specs.Str.Lines.{strip_carriage_return}
use Rattle.std.proofs.lemmas.Iterator.{YieldsList-from_slice}
use Rattle.std.proofs.lemmas.Iterator.Search.{position_from_yields_List}
use Rattle.lsl_notes.specs.Lines.{is_feed}
use Rattle.lsl_notes.proofs.LinePlaces.{first-fed, first-alone}
use Rattle.lsl_notes.proofs.places.line_length.Goals as goal

pub returns-in-Some-clause-first : goal.returns-in-Some-clause-first
returns-in-Some-clause-first c =
    let e = position_from_yields_List is_feed _ _ _ c.position.ensures.ran
    (YieldsList-from_slice c.args.bytes.now cc) (λ x b q k. search (rules, tests)) in (
      strip_carriage_return (take c.in-Some.feed c.args.bytes.now),
      first-fed c.args.bytes.now c.in-Some.feed (sym e ∙ c.in-Some.is),
    )

pub returns-in-None-clause-first : goal.returns-in-None-clause-first
returns-in-None-clause-first c =
    let e = position_from_yields_List is_feed _ _ _ c.position.ensures.ran
    (YieldsList-from_slice c.args.bytes.now cc) (λ x b q k. search (rules, tests)) in (
      c.args.bytes.now,
      first-alone c.args.bytes.now c.requires (sym e ∙ c.in-None.is),
    )
