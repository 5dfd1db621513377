-- What goes out of the table and comes into it, one channel after another.
use Rattle.std.proofs.Common.{◌≡◌, ◌≢◌, ℕ, ◌+◌, ◌<◌, Bool, true, false, List, get_or, length, take, ℤ, refl, ap, sym, ◌∙◌}
use Rattle.std.specs.Prelude.{◌&&◌, ◌||◌, not}
use Rattle.std.specs.Ordering.{int_eq}
use Rattle.std.proofs.lemmas.Bool.Decides.{Decides-int_eq}
use Rattle.std.proofs.lemmas.List.Folds.{list_any_more}
use Rattle.lsl_region.specs.declared.chat_index.ChannelEntry.{ChannelEntry}
use Rattle.lsl_region.specs.Hearing.{has_channel}
use Rattle.lsl_region.specs.Table.{has_entry, heard, is_heard, same_heard}
use Rattle.lsl_region.proofs.Ordered.{and-true}
use Rattle.lsl_region.proofs.Table.{or-false, other-place, same-place}

stays-kept : (a n t e : Bool) → (e ≡ true → n ≡ true) → (a && (n || not t)) ≡ (a && (n || not (t || e)))
stays-kept false n t e h = refl
stays-kept true true t e h = refl
stays-kept true false t true h = let k : false ≡ true = h refl in absurd cc
stays-kept true false true false h = refl
stays-kept true false false false h = refl

stays-gone : (a n t e : Bool) → (e ≡ true → n ≡ false)
    → ((a && (n || not t)) && not e) ≡ (a && (n || not (t || e)))
stays-gone false n t e h = refl
stays-gone true true t true h = let k : true ≡ false = h refl in absurd cc
stays-gone true true t false h = refl
stays-gone true false true e h = refl
stays-gone true false false true h = refl
stays-gone true false false false h = refl

comes-known : (a r t e : Bool) → (e ≡ true → r ≡ true) → (a || (t && not r)) ≡ (a || ((t || e) && not r))
comes-known true r t e h = refl
comes-known false false t true h = let k : false ≡ true = h refl in absurd cc
comes-known false false true false h = refl
comes-known false false false false h = refl
comes-known false true true e h = refl
comes-known false true false true h = refl
comes-known false true false false h = refl

comes-new : (a r t e : Bool) → (e ≡ true → r ≡ false) → ((a || (t && not r)) || e) ≡ (a || ((t || e) && not r))
comes-new true r t e h = refl
comes-new false true t true h = let k : true ≡ false = h refl in absurd cc
comes-new false true true false h = refl
comes-new false true false false h = refl
comes-new false false true e h = refl
comes-new false false false true h = refl
comes-new false false false false h = refl

at-equal : (row : List ℤ) (c x : ℤ) (b : Bool) → has_channel row x ≡ b → int_eq c x ≡ true → has_channel row c ≡ b
at-equal row c x b h e = ap (has_channel row) ((Decides-int_eq c x).0 e) ∙ h

-- one channel of a row more
module _ (row : List ℤ) (i : ℕ) (x : ℤ) (there : i < length row) (at : get_or row i x ≡ x) (c : ℤ) where
  pub one-more : has_channel (take (i + 1) row) c ≡ (has_channel (take i row) c || int_eq c x)
  one-more = list_any_more (int_eq c) row i x there
      ∙ ap (λ (z : ℤ). has_channel (take i row) c || int_eq c z) at

  -- it stays, or goes
  module _ (new : List ℤ) (a : Bool) where
    pub kept-more : has_channel new x ≡ true → (a && (has_channel new c || not (has_channel (take i row) c)))
        ≡ (a && (has_channel new c || not (has_channel (take (i + 1) row) c)))
    kept-more h =
        stays-kept a (has_channel new c) (has_channel (take i row) c) (int_eq c x) (at-equal new c x true h)
        ∙ ap (λ (b : Bool). a && (has_channel new c || not b)) (sym one-more)

    pub gone-more : has_channel new x ≡ false
        → ((a && (has_channel new c || not (has_channel (take i row) c))) && not (int_eq c x))
        ≡ (a && (has_channel new c || not (has_channel (take (i + 1) row) c)))
    gone-more h =
        stays-gone a (has_channel new c) (has_channel (take i row) c) (int_eq c x) (at-equal new c x false h)
        ∙ ap (λ (b : Bool). a && (has_channel new c || not b)) (sym one-more)

  -- it was there before, or comes
  module _ (old : List ℤ) (a : Bool) where
    pub known-more : has_channel old x ≡ true → (a || (has_channel (take i row) c && not (has_channel old c)))
        ≡ (a || (has_channel (take (i + 1) row) c && not (has_channel old c)))
    known-more h =
        comes-known a (has_channel old c) (has_channel (take i row) c) (int_eq c x) (at-equal old c x true h)
        ∙ ap (λ (b : Bool). a || (b && not (has_channel old c))) (sym one-more)

    pub new-more : has_channel old x ≡ false
        → ((a || (has_channel (take i row) c && not (has_channel old c))) || int_eq c x)
        ≡ (a || (has_channel (take (i + 1) row) c && not (has_channel old c)))
    new-more h =
        comes-new a (has_channel old c) (has_channel (take i row) c) (int_eq c x) (at-equal old c x false h)
        ∙ ap (λ (b : Bool). a || (b && not (has_channel old c))) (sym one-more)

-- an entry of one place goes or comes
module _ (old new : List ChannelEntry) (x : ℤ) (place : ℕ) where
  module _ (told : (h : ChannelEntry) → has_entry new h ≡ (has_entry old h && not (same_heard h (heard x place)))) where
    pub gone-here : (c : ℤ) → is_heard new c place ≡ (is_heard old c place && not (int_eq c x))
    gone-here c = told (heard c place) ∙ ap (λ (b : Bool). is_heard old c place && not b) (same-place c x place)

    pub gone-there : (c : ℤ) (p : ℕ) → p ≢ place → is_heard new c p ≡ is_heard old c p
    gone-there c p n = told (heard c p) ∙ and-true (is_heard old c p) (not (same_heard (heard c p) (heard x place)))
        (ap not (other-place c x p place n))

  module _ (told : (h : ChannelEntry) → has_entry new h ≡ (has_entry old h || same_heard h (heard x place))) where
    pub came-here : (c : ℤ) → is_heard new c place ≡ (is_heard old c place || int_eq c x)
    came-here c = told (heard c place) ∙ ap (λ (b : Bool). is_heard old c place || b) (same-place c x place)

    pub came-there : (c : ℤ) (p : ℕ) → p ≢ place → is_heard new c p ≡ is_heard old c p
    came-there c p n = told (heard c p) ∙ or-false (is_heard old c p) (same_heard (heard c p) (heard x place))
        (other-place c x p place n)
