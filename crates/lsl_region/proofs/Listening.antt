-- The channels on which the first of some listens are active.
use Rattle.std.proofs.Common.{◌≡◌, ℕ, ◌+◌, ◌<◌, Bool, true, false, List, length, get_or, take, ℤ, ap, sym, ◌∙◌, refl}
use Rattle.std.specs.Prelude.{◌&&◌, ◌||◌, Some, slice_get}
use Rattle.std.specs.List.{list_any}
use Rattle.std.specs.Ordering.{int_eq}
use Rattle.std.proofs.lemmas.List.Folds.{list_any_more}
use Rattle.std.proofs.lemmas.Option.{slice_get-get_or, slice_get_within}
use Rattle.lsl_post.specs.declared.listen.Listen.{Listen}
use Rattle.lsl_region.specs.Hearing.{has_channel, is_on}

or-false : (a : Bool) → (a || false) ≡ a
or-false true = refl
or-false false = refl

-- one listen more
module _ (list : List Listen) (place : ℕ) (l : Listen) (at : Some l ≡ slice_get list place) (row : List ℤ)
    (told : (channel : ℤ) → has_channel row channel ≡ list_any (is_on channel) (take place list)) where
  within : place < length list
  within = slice_get_within list place l (sym at)

  last : get_or list place l ≡ l
  last = let e : Some (get_or list place l) ≡ Some l = sym (slice_get-get_or list place l within) ∙ sym at in cc

  any-more : (channel : ℤ) → list_any (is_on channel) (take (place + 1) list)
      ≡ (list_any (is_on channel) (take place list) || (l.active && int_eq channel l.channel))
  any-more channel = list_any_more (is_on channel) list place l within
      ∙ ap (λ (z : Listen). list_any (is_on channel) (take place list) || is_on channel z) last

  -- it isn't active
  pub told-idle : l.active ≡ false
      → (channel : ℤ) → has_channel row channel ≡ list_any (is_on channel) (take (place + 1) list)
  told-idle off channel = told channel ∙ sym (any-more channel
      ∙ ap (λ (b : Bool). list_any (is_on channel) (take place list) || (b && int_eq channel l.channel)) off
      ∙ or-false (list_any (is_on channel) (take place list)))

  -- it is, and its channel is added
  pub told-active : l.active ≡ true → (new : List ℤ)
      → ((channel : ℤ) → has_channel new channel ≡ (has_channel row channel || int_eq channel l.channel))
      → (channel : ℤ) → has_channel new channel ≡ list_any (is_on channel) (take (place + 1) list)
  told-active on new added channel = added channel
      ∙ ap (λ (b : Bool). b || int_eq channel l.channel) (told channel)
      ∙ sym (any-more channel
      ∙ ap (λ (b : Bool). list_any (is_on channel) (take place list) || (b && int_eq channel l.channel)) on)
