use Rattle.std.proofs.Common.{◌≡◌, ◌∙◌, ℕ, List, [], ◌∷◌, ◌++◌, ap, length, sym, arith}
use Rattle.std.proofs.Math.ListN.{length-set}
use Rattle.std.proofs.lemmas.List.{length_push}
use Rattle.lsl_region.specs.declared.objects.Primitive.{Primitive}
use Rattle.lsl_region.specs.Answers.{with_name}
use Rattle.lsl_region.specs.ObjectParts.{named}
use Rattle.lsl_region.proofs.Gathering.{named-all, named-last}
use Rattle.lsl_region.proofs.arrival.rename_all.Goals as goal

pub loop-name-preserved : goal.loop-name-preserved
loop-name-preserved c =
    let names = c.pop.new.self.items in
    let prims = c.loop-name.prims in
    let name = c.in-Some.name in
    let popped = c.in-Some.ensures.items in
    let long : length c.rename.new.self ≡ length prims
    = ap (λ (z : List Primitive). length z) c.rename.ensures ∙ length-set prims c.len.result _ in
    let behind : c.len.result ≡ length names = omega (arith, c.len.ensures, c.pop.new.self.ok.0) in
    let one : length c.loop-name.names.items ≡ length (names ++ name ∷ [])
    = ap (λ (z : List (List ℕ)). length z) popped in (
      omega (arith, c.loop-name.invariant.0, one, length_push names name, long),
      ap (λ (z : List Primitive). named z names) c.rename.ensures
          ∙ ap (λ (k : ℕ). named (with_name prims k name) names) behind
          ∙ named-last prims names name
          ∙ ap (named prims) (sym popped)
          ∙ c.loop-name.invariant.1,
    )

pub returns : goal.returns
returns c =
    named-all c.loop-name.prims c.loop-name.names.items
    (λ h. c.in_default.ensures.variant.1 (omega (arith, h, c.loop-name.names.ok.0))) ∙ c.loop-name.invariant.1
