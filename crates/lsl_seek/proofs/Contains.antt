-- A part sought at each byte of a text.
use Rattle.std.proofs.Common.{◌≡◌, ℕ, ◌==◌, ◌<◌, ◌≤◌, true, false, nat_eq, List, [], ◌∷◌, length, drop, refl, sym, ap, ◌∙◌, arith, ◌||◌}
use Rattle.std.specs.List.{starts_with}
use Rattle.lsl_seek.specs.Aims.{contains}

pub contains-found : (rest part : List ℕ) → 1 ≤ length rest → starts_with nat_eq rest part ≡ true → contains rest part ≡ true
unfolding contains
contains-found [] part some h = absurd (omega arith)
contains-found (b ∷ rest) part some h = ap (λ t. t || contains rest part) h

pub contains-more : (rest more part : List ℕ) → 1 ≤ length rest → more ≡ drop 1 rest → starts_with nat_eq rest part ≡ false
    → contains more part ≡ contains rest part
unfolding contains
contains-more [] more part some is h = absurd (omega arith)
contains-more (b ∷ rest) more part some is h = ap (λ t. contains t part) is ∙ sym (ap (λ t. t || contains rest part) h)

pub contains-end : (rest part : List ℕ) → length rest < 1 → contains rest part ≡ (length part == 0)
unfolding contains
contains-end [] part h = refl
contains-end (b ∷ rest) part h = absurd (omega arith)
