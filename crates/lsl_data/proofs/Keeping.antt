-- What is changed stays a store that an image may hold.
use Rattle.std.proofs.Common.{◌≡◌, ◌∙◌, refl, sym, ap, subst, ℕ, ◌+◌, ◌-◌, ◌*◌, ◌≤◌, ◌<◌, List, [], ◌∷◌, ◌++◌, length, take, drop, get_or, Option, Some, None, unwrap_or, arith, length-append}
use Rattle.std.specs.List.{AllByRecursion}
use Rattle.std.specs.Map.{values_of}
use Rattle.std.specs.Option.{option_map}
use Rattle.std.specs.Str.{encode_utf8_all}
use Rattle.std.proofs.lemmas.Cmp.{nat_list_cmp_total}
use Rattle.std.proofs.lemmas.Grind.{take_at_read}
use Rattle.std.proofs.lemmas.List.Sums.{sum_by-append, sum_by_push}
use Rattle.std.proofs.lemmas.List.{take-append-drop}
use Rattle.std.proofs.lemmas.Str.{length-le-encodes}
use Rattle.lsl_post.specs.declared.parts.Pair.{Pair}
use Rattle.lsl_image.specs.Object.{pair_bytes}
use Rattle.lsl_image.specs.Valid.{Ascend, IsPair, IsStore}
use Rattle.lsl_data.specs.Kept.{AreNamed, Entries, IsKept}
use Rattle.lsl_data.specs.Pairs.{bytes_of, pair_at, with_pair, without}
use Rattle.lsl_data.proofs.InOrder.{each-filter, each-put, sum-cons}
use Rattle.lsl_data.proofs.PairLemmas.{Ascend-with_pair, Ascend-without, bytes_at, bytes-without, with_pair-last}

-- each pair has at least two bytes, so there are few
twice : (pairs : List Pair) → AllByRecursion IsPair pairs → 2 * length pairs ≤ bytes_of pairs
twice [] each = omega arith
twice (p ∷ pairs) each =
    omega (
      arith,
      sum-cons pair_bytes p pairs,
      length-le-encodes p.name,
      length-le-encodes p.value,
      each.0.name,
      each.0.value,
      twice pairs each.1,
    )

pub store-none : IsStore []
store-none = record { few = omega arith; each = tt; ascend = tt; room = omega arith }

pub store-with_pair : (pairs : List Pair) (p : Pair) → IsStore pairs → IsPair p
    → bytes_of (with_pair pairs p) ≤ 65536
    → IsStore (with_pair pairs p)
unfolding with_pair
store-with_pair pairs p s is room =
    let each = each-put nat_list_cmp_total (λ q. encode_utf8_all q.name) IsPair pairs p s.each is in
    record {
      few = omega (arith, twice (with_pair pairs p) each, room);
      each = each;
      ascend = Ascend-with_pair pairs p s.ascend;
      room = room;
    }

pub store-without : (pairs : List Pair) (name : List ℕ) → IsStore pairs → IsStore (without pairs name)
unfolding without
store-without pairs name s =
    let each = each-filter IsPair _ pairs s.each in
    let room : bytes_of (without pairs name) ≤ 65536 = omega (arith, bytes-without pairs name s.ascend, s.room) in
    record {
      few = omega (arith, twice (without pairs name) each, room);
      each = each;
      ascend = Ascend-without pairs name s.ascend;
      room = room;
    }

each-front : (xs ys : List Pair) → AllByRecursion IsPair (xs ++ ys) → AllByRecursion IsPair xs
each-front [] ys h = tt
each-front (x ∷ xs) ys h = (h.0, each-front xs ys h.1)

ascend-front : (xs ys : List Pair) → Ascend (xs ++ ys) → Ascend xs
ascend-front [] ys h = tt
ascend-front (x ∷ []) ys h = tt
ascend-front (x ∷ y ∷ xs) ys h = (h.0, ascend-front (y ∷ xs) ys h.1)

-- a first part of pairs that an image may hold
pub store-take : (n : ℕ) (pairs : List Pair) → IsStore pairs → IsStore (take n pairs)
store-take n pairs s =
    let whole : IsStore (take n pairs ++ drop n pairs) = subst IsStore (sym (take-append-drop n pairs)) s in
    record {
      few = omega (arith, whole.few, length-append (take n pairs) (drop n pairs));
      each = each-front (take n pairs) (drop n pairs) whole.each;
      ascend = ascend-front (take n pairs) (drop n pairs) whole.ascend;
      room = omega (arith, whole.room, sum_by-append pair_bytes (take n pairs) (drop n pairs));
    }

pub more-is : (pairs old : List Pair) (n : ℕ) (p : Pair) → old ≡ take n pairs
    → (n < length pairs) × (p ≡ get_or pairs n p) → old ++ p ∷ [] ≡ take (n + 1) pairs
more-is pairs old n p is at =
    ap (λ xs. xs ++ p ∷ []) is ∙ ap (λ q. take n pairs ++ q ∷ []) at.1 ∙ sym (take_at_read pairs n p at.0).1

-- a pair that is taken off the list
pub store-more : (pairs old : List Pair) (n : ℕ) (p : Pair) → IsStore pairs → old ≡ take n pairs
    → (n < length pairs) × (p ≡ get_or pairs n p) → IsStore (old ++ p ∷ [])
store-more pairs old n p s is at =
    subst IsStore (sym (more-is pairs old n p is at)) (store-take (n + 1) pairs s)

-- What the type keeps, after changes of the map.
module _ (es new : Entries) (used : ℕ) (kept : IsKept es used) (named : AreNamed new) where
  pub kept-put : (p : Pair) (now : ℕ) → IsPair p → values_of new ≡ with_pair (values_of es) p
      → now ≡ bytes_of (with_pair (values_of es) p) → now ≤ 65536 → IsKept new now
  kept-put p now is put counted room =
      record {
        named = named;
        store = subst IsStore (sym put)
            (store-with_pair (values_of es) p kept.store is (omega (arith, counted, room)));
        counted = counted ∙ ap bytes_of (sym put);
      }

  pub kept-push : (p : Pair) → IsStore (values_of es ++ p ∷ []) → values_of new ≡ with_pair (values_of es) p
      → (values_of new ≡ values_of es ++ p ∷ []) × IsKept new (used + pair_bytes p)
  kept-push p store put =
      let last = put ∙ with_pair-last (values_of es) p store.ascend in (
        last,
        record {
          named = named;
          store = subst IsStore (sym last) store;
          counted = omega (arith, kept.counted, sum_by_push pair_bytes (values_of es) p, ap bytes_of last);
        },
      )

  pub kept-take : (name : List ℕ) (gone : ℕ) → Some gone ≡ option_map pair_bytes (pair_at (values_of es) name)
      → values_of new ≡ without (values_of es) name → IsKept new (used - gone)
  kept-take name gone is left =
      let worth : bytes_at (values_of es) name ≡ gone = ap (λ (o : Option ℕ). unwrap_or o 0) (sym is) in
      record {
        named = named;
        store = subst IsStore (sym left) (store-without (values_of es) name kept.store);
        counted = omega (
          arith,
          kept.counted,
          bytes-without (values_of es) name kept.store.ascend,
          worth,
          ap bytes_of left,
        );
      }

  pub kept-same : values_of new ≡ values_of es → IsKept new used
  kept-same same =
      record {
        named = named;
        store = subst IsStore (sym same) kept.store;
        counted = kept.counted ∙ ap bytes_of (sym same);
      }

pub gone-within : (es : Entries) (used : ℕ) (name : List ℕ) (gone : ℕ) → IsKept es used
    → Some gone ≡ option_map pair_bytes (pair_at (values_of es) name) → gone ≤ used
gone-within es used name gone kept is =
    let worth : bytes_at (values_of es) name ≡ gone = ap (λ (o : Option ℕ). unwrap_or o 0) (sym is) in
    omega (arith, kept.counted, bytes-without (values_of es) name kept.store.ascend, worth)

-- if bytes went, a pair was there; if none went, none was
pub stood : (o : Option Pair) (gone : ℕ) → Some gone ≡ option_map pair_bytes o → (p : Pair) × (o ≡ Some p)
stood None gone e = absurd (let never : ⊥ = cc in never)
stood (Some p) gone e = (p, refl)

pub none-stood : (o : Option Pair) → None ≡ option_map pair_bytes o → o ≡ None
none-stood None e = refl
none-stood (Some p) e = absurd (let never : ⊥ = cc in never)
