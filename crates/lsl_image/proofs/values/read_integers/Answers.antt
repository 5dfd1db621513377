use Rattle.std.proofs.Common.{◌≡◌, ◌∙◌, refl, ap, sym, subst, arith, ◌+◌, ℤ, List, [], ◌∷◌, ◌++◌, length}
use Rattle.std.specs.Int.{w32, cast_signed, cast_unsigned}
use Rattle.std.proofs.lemmas.Int.{to_z-of_z}
use Rattle.std.proofs.lemmas.List.{length-append}
use Rattle.std.proofs.lemmas.List.Sums.{sum_by_push}
use Rattle.lsl_value.specs.Values.{charge_of}
use Rattle.lsl_value.specs.declared.tagged.Value.{Value}
use Rattle.lsl_value.specs.declared.tagged.Value.TheVariants.{Int}
use Rattle.lsl_bytes.specs.Fields.{FitsI32}
use Rattle.lsl_running.specs.Charging.{charges_of}
use Rattle.lsl_image.specs.Charges.{integers_charge}
use Rattle.lsl_image.proofs.KindedLemmas.{value-given, values-next, values-start}
use Rattle.lsl_image.proofs.values.read_integers.Goals as goal

pub loop-kind-init : goal.loop-kind-init
loop-kind-init c = record {
  many = ap length c.requires;
  leads = values-start c.args.bytes.now c.args.kinds.now c.args.place c.args.values.now.items c.requires;
  charged = subst (λ (vs : List Value). charges_of vs ≡ integers_charge (length vs)) (sym c.requires) refl;
}

pub loop-kind-preserved : goal.loop-kind-preserved
loop-kind-preserved c =
    let before = c.loop-kind.values.items in
    let fits : FitsI32 c.in-Some.n =
    (value-given c.args.bytes.now _ c.loop-kind.next (Int c.in-Some.n) c.in-Some.behind c.in-Some.ensures).0.0 in
    let same : cast_signed w32 (cast_unsigned w32 c.in-Some.n) ≡ c.in-Some.n = to_z-of_z w32 c.in-Some.n fits in
    let items = c.push_reserved.ensures.items ∙ ap (λ (n : ℤ). before ++ Int n ∷ []) same in
    let one = ap length items in
    let many = length-append before (Int c.in-Some.n ∷ []) in
    let so = c.loop-kind.invariant.many in
    let more : charges_of (before ++ Int c.in-Some.n ∷ []) ≡ charges_of before + 8 =
    sum_by_push charge_of before (Int c.in-Some.n) in
    let charges = ap charges_of items in
    record {
      many = omega (arith, one, many, so);
      leads = values-next c.args.bytes.now c.args.kinds.now c.loop-kind.kind-index c.loop-kind.next before
          c.args.place (Int c.in-Some.n) c.in-Some.behind _ c.loop-kind-test.true items c.loop-kind.invariant.leads
          c.in-Some.ensures;
      charged = omega (arith, charges, more, one, many, c.loop-kind.invariant.charged);
    }
