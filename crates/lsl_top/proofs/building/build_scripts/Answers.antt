use Rattle.std.proofs.Common.{Some, Err, ℕ, Vec, Global, map, take, List, [], ◌∷◌, ◌++◌, ◌+◌, length, ap, sym, ◌∙◌, subst, arith, length-append}
use Rattle.std.specs.List.{AllZip}
use Rattle.lsl_code.specs.declared.woven_units.Woven.{Woven as Code}
use Rattle.lsl_tree.specs.Program.{program_of}
use Rattle.lsl_build.specs.Accepted.{Accepted}
use Rattle.lsl_build.specs.Codes.{AreCodesOf, IsCodeOf}
use Rattle.lsl_build.specs.Faults.{FirstFault}
use Rattle.lsl_world.specs.Codes.{AreRunBy, IsRunBy}
use Rattle.lsl_top.specs.Scripts.{IsRefusedAt}
use Rattle.lsl_top.specs.declared.building.Refused.{Refused as TheRefused}
use Rattle.lsl_top.proofs.OneCode.{codes-push}
use Rattle.lsl_top.proofs.Faults.{refused-place}
use Rattle.lsl_top.proofs.Zips.{get-at, zip-push, take-map-more}
use Rattle.lsl_top.proofs.building.build_scripts.Goals as goal

pub loop-place-preserved : goal.loop-place-preserved
loop-place-preserved c =
    let (programs, accepted, run) = c.loop-place.invariant.built in
    let built = c.in-Ok.ensures in
    let program = program_of c.in-Ok.field-0.program in
    let text = c.index-texts-place.result in
    let added = c.in_ok-add-in-Ok.ensures.ok in
    record {
      built = (
        programs ++ program ∷ [],
        subst (λ z. AllZip Accepted z (programs ++ program ∷ []))
            (sym (take-map-more (λ t. t.items) c.args.texts.now c.loop-place.place text text c.loop-place-test.true
            c.index-texts-place.is))
            (zip-push Accepted _ programs text.items program accepted
            (subst (λ z. Accepted z program) c.as_slice.ensures.value built.found)),
        subst (λ (z : List Code). AreRunBy (programs ++ program ∷ []) z) (sym added)
            (zip-push IsRunBy programs c.loop-place.units program c.in-Ok.field-0.code run
            (record {
              globals = built.code.globals;
              states = built.code.states;
              meaning = built.meaning;
              asks = built.asks;
              kinded = built.kinded;
              shaped = built.shaped;
            })),
      );
      codes = subst
          (λ (z : List Code). AreCodesOf (take (c.loop-place.place + 1)
          (map (λ (t : Vec ℕ Global). t.items) c.args.texts.now)) z) (sym added)
          (subst (λ (z : List (List ℕ)). AreCodesOf z (c.loop-place.units ++ c.in-Ok.field-0.code ∷ []))
          (sym (take-map-more (λ t. t.items) c.args.texts.now c.loop-place.place text text c.loop-place-test.true
          c.index-texts-place.is))
          (codes-push _ c.loop-place.units text.items c.in-Ok.field-0.code c.loop-place.invariant.codes (
            program,
            subst (λ (z : List ℕ). Accepted z program) c.as_slice.ensures.value built.found,
            subst (λ (z : List ℕ). IsCodeOf z program c.in-Ok.field-0.code) c.as_slice.ensures.value built.code,
          )));
      len = omega (
        arith,
        ap length added,
        length-append c.loop-place.units (c.in-Ok.field-0.code ∷ []),
        c.loop-place.invariant.len,
      );
    }

pub returns-in-Err-clause-refused : goal.returns-in-Err-clause-refused
returns-in-Err-clause-refused c = λ refused is.
    let (programs, accepted, run) = c.loop-place.invariant.built in
    let text = c.index-texts-place.result in
    let texts = map (λ (t : Vec ℕ Global). t.items) c.args.texts.now in
    let at = refused-place c.loop-place.place c.in-Err.refusal c.at_place.result refused c.at_place.ensures is in
    let here : IsRefusedAt texts c.loop-place.place at.fault = record {
      text = text.items;
      text_is = get-at (λ (t : Vec ℕ Global). t.items) c.args.texts.now c.loop-place.place text c.loop-place-test.true
          ∙ ap (λ (t : Vec ℕ Global). Some t.items) (sym c.index-texts-place.is);
      first = subst (λ (z : List ℕ). FirstFault z at.fault) c.as_slice.ensures.value
          (c.in-Err.ensures.first at.fault (ap (λ r. Err r) at.was));
      before = (programs, accepted);
    } in
    subst (λ (r : TheRefused). IsRefusedAt texts r.place r.fault) at.is here
