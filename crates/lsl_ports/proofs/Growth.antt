-- What was added, and then what was added.
use Rattle.std.proofs.Common.{◌≡◌, ◌≤◌, ℕ, ◌+◌, ◌-◌, length, arith, List, [], ◌++◌, take, drop, Option, Some, None, ap, sym, refl, ◌∙◌, subst, append_assoc, append-nil}
use Rattle.std.proofs.lemmas.List.{take_rest, length-drop}
use Rattle.std.proofs.Math.Seq.{take-add}
use Rattle.lsl_ports.specs.Growth.{Grew, Begins, GrewPartly}

pub grew-none : {A : Type 0} (a : Option (List A)) → Grew a a []
grew-none None = refl
grew-none (Some old) = ap Some (sym (append-nil old))

pub grew-is : {A : Type 0} (a b : Option (List A)) (xs ys : List A) → Grew a b xs → xs ≡ ys → Grew a b ys
grew-is a b xs ys g e = subst (λ z. Grew a b z) e g

pub grew-then : {A : Type 0} (a b c : Option (List A)) (xs ys : List A) → Grew a b xs → Grew b c ys
    → Grew a c (xs ++ ys)
grew-then None b c xs ys g h = subst (λ z. Grew z c ys) g h
grew-then (Some old) b c xs ys g h =
    let k = subst (λ z. Grew z c ys) g h in k ∙ ap Some (append_assoc old xs ys)

-- a list that is unchanged
pub grew-same : {A : Type 0} (a b c : Option (List A)) (xs : List A) → Grew a b xs → c ≡ b → Grew a c xs
grew-same a b c xs g e = subst (λ z. Grew a z xs) (sym e) g

pub begins-after : {A : Type 0} (xs ys all : List A) → Begins ys all → Begins (xs ++ ys) (xs ++ all)
begins-after xs ys all b = record {
  others = b.others;
  whole = append_assoc xs ys b.others ∙ ap (λ z. xs ++ z) b.whole;
}

pub begins-more : {A : Type 0} (xs all more : List A) → Begins xs all → Begins xs (all ++ more)
begins-more xs all more b = record {
  others = b.others ++ more;
  whole = sym (append_assoc xs b.others more) ∙ ap (λ z. z ++ more) b.whole;
}

pub begins-is : {A : Type 0} (xs all others : List A) → Begins xs all → all ≡ others → Begins xs others
begins-is xs all others b e = subst (λ z. Begins xs z) e b

pub begins-all : {A : Type 0} (xs : List A) → Begins xs xs
begins-all xs = record { others = []; whole = append-nil xs }

pub begins-none : {A : Type 0} (all : List A) → Begins [] all
begins-none all = record { others = all; whole = refl }

pub partly-begins : {A : Type 0} (a b : Option (List A)) (xs all : List A) → Grew a b xs → Begins xs all
    → GrewPartly a b all
partly-begins a b xs all g begins = record { added = xs; grew = g; begins = begins }

pub one_more : (xs : List ℕ) (d n : ℕ) → take d xs ++ take n (take (length xs - d) (drop d xs)) ≡ take (d + n) xs
one_more xs d n = ap (λ z. take d xs ++ take n z) (take_rest xs d) ∙ sym (take-add d n xs)

pub still_within : (xs : List ℕ) (d n : ℕ) → d ≤ length xs → n ≤ length (take (length xs - d) (drop d xs))
    → d + n ≤ length xs
still_within xs d n h k = let e : n ≤ length (drop d xs) = subst (λ z. n ≤ length z) (take_rest xs d) k in
    omega (arith, e, length-drop d xs)
