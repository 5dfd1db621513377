-- Regions and their numbers.
use Rattle.std.proofs.Common.{◌≡◌, ◌∙◌, refl, sym, ap, subst, arith, ℕ, suc, ◌+◌, ◌-◌, ◌<◌, ◌≤◌, nat_eq, Bool, true, false, List, [], ◌∷◌, length, get_or, if◌then◌else◌, Option, Some, None}
use Rattle.std.specs.Prelude.{is_some, unwrap_or}
use Rattle.std.specs.Str.{bytes_eq}
use Rattle.std.proofs.lemmas.Slice.Eq.{bytes_eq-Decides}
use Rattle.lsl_handoff.specs.declared.drive.Way.{Way}
use Rattle.lsl_handoff.specs.Fields.{IsOneOf}
use Rattle.lsl_world.specs.Regions.{IsNamed, name_in, number_from, number_in, number_of, way_between}

-- a number that was found is one of a place that has the region
pub record IsFoundAt (first : ℕ) (names : List (List ℕ)) (region : List ℕ) (n : ℕ) : Type 0 where
  pub low : first ≤ n
  pub high : n < first + length names
  pub there : get_or names (n - first) [] ≡ region

found-next : (first : ℕ) (name : List ℕ) (names : List (List ℕ)) (region : List ℕ) (n : ℕ)
    → IsFoundAt (suc first) names region n → IsFoundAt first (name ∷ names) region n
found-next first name names region n is =
    let behind : n - first ≡ suc (n - suc first) = omega (arith, is.low) in
    record {
      low = omega (arith, is.low);
      high = omega (arith, is.high);
      there = ap (λ (k : ℕ). get_or (name ∷ names) k []) behind ∙ is.there;
    }

pub found-at : (first : ℕ) (names : List (List ℕ)) (region : List ℕ) (n : ℕ)
    → number_from first names region ≡ Some n → IsFoundAt first names region n
found-at first [] region n e = absurd (cc)
found-at first (name ∷ names) region n e =
    go (bytes_eq name region) refl e (λ is. found-at (suc first) names region n is)
  where
    go : (b : Bool) → bytes_eq name region ≡ b
        → (if b then Some first else number_from (suc first) names region) ≡ Some n
        → (number_from (suc first) names region ≡ Some n → IsFoundAt (suc first) names region n)
        → IsFoundAt first (name ∷ names) region n
    go true same is next =
        let here : first ≡ n = cc in
        let at : n - first ≡ 0 = omega (arith, here) in
        record {
          low = omega (arith, here);
          high = omega (arith, here);
          there = ap (λ (k : ℕ). get_or (name ∷ names) k []) at ∙ (bytes_eq-Decides name region).0 same;
        }
    go false same is next = found-next first name names region n (next is)

pub named-number : (names : List (List ℕ)) (region : List ℕ) → IsNamed names region
    → number_of names region ≡ Some (number_in names region)
named-number names region named = go (number_of names region) named where
  go : (o : Option ℕ) → is_some o ≡ true → o ≡ Some (unwrap_or o 0)
  go (Some n) e = refl
  go None e = absurd (cc)

-- the number of a region that is named
pub named-at : (names : List (List ℕ)) (region : List ℕ) → IsNamed names region
    → IsFoundAt 1 names region (number_in names region)
named-at names region named =
    found-at 1 names region (number_in names region) (named-number names region named)

pub number-there : (names : List (List ℕ)) (region : List ℕ) → IsNamed names region
    → IsOneOf (length names) (number_in names region)
number-there names region named =
    let at = named-at names region named in (at.low, omega (arith, at.high))

pub name-number : (names : List (List ℕ)) (region : List ℕ) → IsNamed names region
    → name_in names (number_in names region) ≡ region
name-number names region named = (named-at names region named).there

-- regions of one number are one
pub one-region : (names : List (List ℕ)) (a b : List ℕ) → IsNamed names a → IsNamed names b
    → number_in names a ≡ number_in names b → a ≡ b
one-region names a b here there same =
    sym (name-number names a here) ∙ ap (name_in names) same ∙ name-number names b there

-- the numbers of a way are there, and it leads from here
pub record IsThere (names : List (List ℕ)) (object : ℕ) (here : List ℕ) (way : Way) : Type 0 where
  pub object_is : way.object ≡ object
  pub from : IsOneOf (length names) way.from
  pub from_is : name_in names way.from ≡ here
  pub to : IsOneOf (length names) way.to

one-found : (names : List (List ℕ)) (region : List ℕ) (n : ℕ) → number_of names region ≡ Some n
    → IsOneOf (length names) n
one-found names region n e = let at = found-at 1 names region n e in (at.low, omega (arith, at.high))

pub way-there : (names : List (List ℕ)) (object : ℕ) (here there : List ℕ) (way : Way)
    → way_between object (number_of names here) (number_of names there) ≡ Some way → IsThere names object here way
way-there names object here there way e = go (number_of names here) (number_of names there) refl refl e where
  go : (a b : Option ℕ) → number_of names here ≡ a → number_of names there ≡ b → way_between object a b ≡ Some way
      → IsThere names object here way
  go (Some x) (Some y) p q e = by (nat_eq x y) e where
    by : (t : Bool) → (if t then None else Some (record { object = object; from = x; to = y })) ≡ Some way
        → IsThere names object here way
    by true e = absurd (cc)
    by false e =
        let is : record { object = object; from = x; to = y } ≡ way = cc in
        record {
          object_is = sym (ap (λ (w : Way). w.object) is);
          from = subst (λ (w : Way). IsOneOf (length names) w.from) is (one-found names here x p);
          from_is = subst (λ (w : Way). name_in names w.from ≡ here) is (found-at 1 names here x p).there;
          to = subst (λ (w : Way). IsOneOf (length names) w.to) is (one-found names there y q);
        }
  go (Some x) None p q e = absurd (cc)
  go None y p q e = absurd (cc)
