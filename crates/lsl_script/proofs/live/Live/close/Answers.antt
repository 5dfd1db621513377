use Rattle.std.proofs.Common.{◌≡◌, refl, ap, ◌∙◌}
use Rattle.std.specs.Prelude.{is_some}
use Rattle.lsl_running.specs.Charging.{charged_with, charges_of}
use Rattle.lsl_script.specs.Closing.{count_gone, gone_parts}
use Rattle.lsl_script.specs.Resting.{keeping}
use Rattle.lsl_script.proofs.Closes.{closes_fits, closing_charge, closing_cleared, closing_is, closing_parts}
use Rattle.lsl_script.proofs.live.Live.close.Goals as goal

pub returns-clause-fits : goal.returns-clause-fits
returns-clause-fits c =
    let at : c.deref_mut-parts.result.now ≡ c.args.self.parts = c.deref_mut-parts.ensures.value ∙ c.script.view_is in
    let gone : (c.go.new.parts ≡ gone_parts c.args.unit.now c.of-going.result c.keep.new.parts)
    × (c.in_ok-cleared.cleared ≡ count_gone c.of-going.result c.keep.new.parts.queue) = c.in_ok-cleared.ensures in
    closes_fits c.args.unit.now c.args.self c.finish-kept.result c.keep.new.parts c.go.new.parts c.in-Some.outcome
    c.is_some-exits.result c.of-going.result c.requires.awake c.requires.ended (record {
      has = c.finish-kept.ensures;
      mid_is = c.keep.ensures ∙ ap (keeping c.finish-kept.result) at;
      ended = c.in-Some.is;
      exits_are = c.is_some-exits.ensures ∙ ap is_some c.handler.ensures;
      going_is = c.of-going.ensures;
      new_is = gone.0;
    })

pub returns-clause-charge : goal.returns-clause-charge
returns-clause-charge c =
    closing_charge c.args.unit.now c.args.self c.finish-kept.result _ c.requires.ended c.finish-kept.ensures
    (c.charged_with_values-charge.ensures ∙ ap (λ vs. charged_with 1024 (charges_of vs)) c.as_slice.ensures)

pub returns-clause-parts : goal.returns-clause-parts
returns-clause-parts c way so =
    let at : c.deref_mut-parts.result.now ≡ c.args.self.parts = c.deref_mut-parts.ensures.value ∙ c.script.view_is in
    let gone : (c.go.new.parts ≡ gone_parts c.args.unit.now c.of-going.result c.keep.new.parts)
    × (c.in_ok-cleared.cleared ≡ count_gone c.of-going.result c.keep.new.parts.queue) = c.in_ok-cleared.ensures in
    closing_parts c.args.unit.now c.args.self c.finish-kept.result c.keep.new.parts c.go.new.parts c.in-Some.outcome
    c.is_some-exits.result c.of-going.result (record {
      has = c.finish-kept.ensures;
      mid_is = c.keep.ensures ∙ ap (keeping c.finish-kept.result) at;
      ended = c.in-Some.is;
      exits_are = c.is_some-exits.ensures ∙ ap is_some c.handler.ensures;
      going_is = c.of-going.ensures;
      new_is = gone.0;
    }) way so

pub returns-clause-cleared : goal.returns-clause-cleared
returns-clause-cleared c way so =
    let at : c.deref_mut-parts.result.now ≡ c.args.self.parts = c.deref_mut-parts.ensures.value ∙ c.script.view_is in
    let gone : (c.go.new.parts ≡ gone_parts c.args.unit.now c.of-going.result c.keep.new.parts)
    × (c.in_ok-cleared.cleared ≡ count_gone c.of-going.result c.keep.new.parts.queue) = c.in_ok-cleared.ensures in
    closing_cleared c.args.unit.now c.args.self c.finish-kept.result c.keep.new.parts c.go.new.parts c.in-Some.outcome
    c.is_some-exits.result c.of-going.result (record {
      has = c.finish-kept.ensures;
      mid_is = c.keep.ensures ∙ ap (keeping c.finish-kept.result) at;
      ended = c.in-Some.is;
      exits_are = c.is_some-exits.ensures ∙ ap is_some c.handler.ensures;
      going_is = c.of-going.ensures;
      new_is = gone.0;
    }) way so _ gone.1

pub returns-clause-source : goal.returns-clause-source
returns-clause-source c codes s f number ends =
    let at : c.deref_mut-parts.result.now ≡ c.args.self.parts = c.deref_mut-parts.ensures.value ∙ c.script.view_is in
    let gone : (c.go.new.parts ≡ gone_parts c.args.unit.now c.of-going.result c.keep.new.parts)
    × (c.in_ok-cleared.cleared ≡ count_gone c.of-going.result c.keep.new.parts.queue) = c.in_ok-cleared.ensures in
    closing_is codes c.args.unit.now s c.args.self c.finish-kept.result c.keep.new.parts c.go.new.parts
    c.in-Some.outcome
    ends.way c.is_some-exits.result c.of-going.result number _ c.requires.ended (record {
      has = c.finish-kept.ensures;
      mid_is = c.keep.ensures ∙ ap (keeping c.finish-kept.result) at;
      ended = c.in-Some.is;
      exits_are = c.is_some-exits.ensures ∙ ap is_some c.handler.ensures;
      going_is = c.of-going.ensures;
      new_is = gone.0;
    }) ends.carries ends.ended refl
    (c.charged_with_values-charge.ensures ∙ ap (λ vs. charged_with 1024 (charges_of vs)) c.as_slice.ensures) gone.1
