-- Kinds of values compared one after another.
use Rattle.std.proofs.Common.{◌≡◌, ◌∙◌, ◌↔◌, sym, ap, arith, ℕ, suc, ◌+◌, ◌<◌, List, ◌∷◌, length, drop, get_or}
use Rattle.std.proofs.Math.Seq.{drop-cons}
use Rattle.lsl_value.specs.Values.{kind_of}
use Rattle.lsl_value.specs.declared.tagged.Kind.{Kind}
use Rattle.lsl_value.specs.declared.tagged.Value.{Value}
use Rattle.lsl_code.specs.Kinds.{kinds_of}

behind : {A : Type 0} (xs : List A) (i : ℕ) (d : A) → i < length xs → drop i xs ≡ get_or xs i d ∷ drop (i + 1) xs
behind xs i d within =
    let next : suc i ≡ i + 1 = omega arith in
    drop-cons xs i d within ∙ ap (λ n. get_or xs i d ∷ drop n xs) next

same_rest : (v : Value) (vs : List Value) (k : Kind) (ks : List Kind) → kinds_of (v ∷ vs) ≡ k ∷ ks → kinds_of vs ≡ ks
same_rest v vs k ks e = cc

-- one kind is the same: all are from here on exactly where they are after it
pub kinds_on : (vs : List Value) (ks : List Kind) (i : ℕ) (v : Value) (d : Kind) (All : Type 0) → length vs ≡ length ks
    → i < length vs → v ≡ get_or vs i v → kind_of v ≡ get_or ks i d
    → (kinds_of (drop i vs) ≡ drop i ks) ↔ All → (kinds_of (drop (i + 1) vs) ≡ drop (i + 1) ks) ↔ All
kinds_on vs ks i v d All long within is same iff =
    let here : drop i vs ≡ v ∷ drop (i + 1) vs =
    behind vs i v within ∙ ap (λ x. x ∷ drop (i + 1) vs) (sym is) in
    let kind : drop i ks ≡ kind_of v ∷ drop (i + 1) ks =
    behind ks i d (omega arith) ∙ ap (λ k. k ∷ drop (i + 1) ks) (sym same) in (
      (λ e. iff.0 (ap kinds_of here ∙ ap (λ l. kind_of v ∷ l) e ∙ sym kind)),
      (λ all. same_rest v (drop (i + 1) vs) (kind_of v) (drop (i + 1) ks)
          (sym (ap kinds_of here) ∙ iff.1 all ∙ kind)),
    )
