-- Whom a link number means, in the language's words.
use Rattle.std.specs.Prelude.{◌≡◌, ◌≢◌, ℕ, ◌+◌, ◌<◌, ◌≤◌, ◌⊎◌, ℤ, pos, negsuc, true, false}
use Rattle.std.proofs.Common.{suc}
use Rattle.lsl_region.specs.Links.{is_for, link_of}

-- -1 to -4
abbrev pub link_set : ℤ
link_set = negsuc 0

abbrev pub link_all_others : ℤ
link_all_others = negsuc 1

abbrev pub link_all_children : ℤ
link_all_children = negsuc 2

abbrev pub link_this : ℤ
link_this = negsuc 3

-- a lone prim has number 0; of several the root has 1, and the others follow in order
abbrev pub PrimsAreNumbered : Type 0
PrimsAreNumbered = (link_of 1 0 ≡ 0) × ((count place : ℕ) → 1 < count → link_of count place ≡ place + 1)

-- LINK_SET means all prims, the sender's as well
abbrev pub SetIsAll : Type 0
SetIsAll = (count sender place : ℕ) → is_for count sender link_set place ≡ true

-- LINK_ALL_OTHERS means all but the sender's
abbrev pub OthersAreAllButTheSender : Type 0
OthersAreAllButTheSender =
    (count sender place : ℕ) → (is_for count sender link_all_others sender ≡ false)
    × (place ≢ sender → is_for count sender link_all_others place ≡ true)

-- LINK_ALL_CHILDREN means all but the root, whoever sends
abbrev pub ChildrenAreAllButTheRoot : Type 0
ChildrenAreAllButTheRoot =
    (count sender place : ℕ) → (is_for count sender link_all_children 0 ≡ false)
    × (0 < place → is_for count sender link_all_children place ≡ true)

-- LINK_THIS means the sender's
abbrev pub ThisIsTheSender : Type 0
ThisIsTheSender =
    (count sender place : ℕ) → (is_for count sender link_this sender ≡ true)
    × (place ≢ sender → is_for count sender link_this place ≡ false)

-- the prim at this place has this number: 0 and 1 are both the root's
abbrev pub HasNumber : (count place n : ℕ) → Type 0
HasNumber count place n = (n ≡ link_of count place) ⊎ ((place ≡ 0) × (n ≤ 1))

-- a number that isn't negative means exactly the prim that has it
abbrev pub NumbersMeanTheirPrim : Type 0
NumbersMeanTheirPrim =
    (count sender n place : ℕ) → place < count
    → (is_for count sender (pos n) place ≡ true → HasNumber count place n)
    × (HasNumber count place n → is_for count sender (pos n) place ≡ true)

-- any other number means none
abbrev pub OtherNumbersMeanNone : Type 0
OtherNumbersMeanNone =
    (count sender n place : ℕ) → is_for count sender (negsuc (suc (suc (suc (suc n))))) place ≡ false
