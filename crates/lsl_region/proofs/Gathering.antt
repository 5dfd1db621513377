-- The scripts of an object are gathered, and its prims are named, one after another.
use Rattle.std.proofs.Common.{◌≡◌, ◌∙◌, refl, sym, ap, arith, ℕ, ◌+◌, ◌<◌, suc, zero, Bool, true, false, List, [], ◌∷◌, ◌++◌, length, get_or, take, append-nil}
use Rattle.std.specs.Prelude.{nat_eq, if◌then◌else◌, Option, Some, None, is_some, map}
use Rattle.std.specs.List.{cons_option, filter_map}
use Rattle.std.specs.Option.{option_map, option_to_list}
use Rattle.std.proofs.lemmas.Bool.{false≢true}
use Rattle.std.proofs.lemmas.List.{map-append, take_more}
use Rattle.std.proofs.lemmas.List.Elements.{filter_map-append}
use Rattle.lsl_post.specs.declared.parts.ScriptParts.{ScriptParts}
use Rattle.lsl_image.specs.Valid.{unit_number}
use Rattle.lsl_region.specs.declared.grid.Seat.{Seat}
use Rattle.lsl_region.specs.declared.objects.Primitive.{Primitive}
use Rattle.lsl_region.specs.Answers.{with_name}
use Rattle.lsl_region.specs.ObjectParts.{named, parts_in_seat, with_unit}

one-option : {Y : Type 0} (o : Option Y) → cons_option o [] ≡ option_to_list o
one-option None = refl
one-option (Some y) = refl

-- one item more
pub gathered : {X Y : Type 0} (f : X → Option Y) (xs : List X) (i : ℕ) (x : X) → i < length xs → x ≡ get_or xs i x
    → filter_map f (take (i + 1) xs) ≡ filter_map f (take i xs) ++ option_to_list (f x)
gathered {X} {Y} f xs i x h e =
    ap (filter_map f) (take_more xs i x h)
    ∙ filter_map-append f (take i xs) (get_or xs i x ∷ [])
    ∙ ap (λ (z : X). filter_map f (take i xs) ++ cons_option (f z) []) (sym e)
    ∙ ap (λ (z : List Y). filter_map f (take i xs) ++ z) (one-option (f x))

-- the number of the unit of a seat's script, where it is one of the object
unit-there : (seat : Seat) (own : Bool) (o : Option ScriptParts)
    → is_some (if own then option_map (with_unit seat.unit) o else None) ≡ true
    → map unit_number (option_to_list (if own then option_map (with_unit seat.unit) o else None)) ≡ seat.unit ∷ []
unit-there seat true (Some parts) e = refl
unit-there seat true None e = absurd cc
unit-there seat false o e = absurd cc

unit-not : (o : Option ScriptParts) → is_some o ≡ false → map unit_number (option_to_list o) ≡ []
unit-not None e = refl
unit-not (Some parts) e = absurd cc

abbrev units : ℕ → List Seat → List ℕ
units place seats = map unit_number (filter_map (parts_in_seat place) seats)

units-more : (place : ℕ) (seats : List Seat) (i : ℕ) (seat : Seat) → i < length seats → seat ≡ get_or seats i seat
    → units place (take (i + 1) seats)
    ≡ units place (take i seats) ++ map unit_number (option_to_list (parts_in_seat place seat))
units-more place seats i seat h e =
    ap (map unit_number) (gathered (parts_in_seat place) seats i seat h e)
    ∙ map-append unit_number (filter_map (parts_in_seat place) (take i seats))
    (option_to_list (parts_in_seat place seat))

pub units-one : (place : ℕ) (seats : List Seat) (i : ℕ) (seat : Seat) → i < length seats
    → seat ≡ get_or seats i seat → is_some (parts_in_seat place seat) ≡ true
    → units place (take (i + 1) seats) ≡ units place (take i seats) ++ seat.unit ∷ []
units-one place seats i seat h e own =
    units-more place seats i seat h e
    ∙ ap (λ (z : List ℕ). units place (take i seats) ++ z)
    (unit-there seat (nat_eq seat.object place) seat.script own)

pub units-same : (place : ℕ) (seats : List Seat) (i : ℕ) (seat : Seat) → i < length seats
    → seat ≡ get_or seats i seat → is_some (parts_in_seat place seat) ≡ false
    → units place (take (i + 1) seats) ≡ units place (take i seats)
units-same place seats i seat h e other =
    units-more place seats i seat h e
    ∙ ap (λ (z : List ℕ). units place (take i seats) ++ z) (unit-not (parts_in_seat place seat) other)
    ∙ append-nil (units place (take i seats))

pub named-none : (prims : List Primitive) → named prims [] ≡ prims
named-none [] = refl
named-none (prim ∷ prims) = refl

-- the last name first
pub named-last : (prims : List Primitive) (names : List (List ℕ)) (name : List ℕ)
    → named (with_name prims (length names) name) names ≡ named prims (names ++ name ∷ [])
named-last [] [] name = refl
named-last [] (n ∷ names) name = refl
named-last (prim ∷ prims) [] name =
    ap (λ (z : List Primitive). record { key = prim.key; name = name } ∷ z) (sym (named-none prims))
named-last (prim ∷ prims) (n ∷ names) name =
    ap (λ (z : List Primitive). record { key = prim.key; name = n } ∷ z) (named-last prims names name)

pub named-long : (prims : List Primitive) (names : List (List ℕ)) → length (named prims names) ≡ length prims
named-long [] names = refl
named-long (prim ∷ prims) [] = refl
named-long (prim ∷ prims) (name ∷ names) = ap suc (named-long prims names)

pub named-key : (prims : List Primitive) (names : List (List ℕ)) (k : ℕ) (d : Primitive)
    → (get_or (named prims names) k d).key ≡ (get_or prims k d).key
named-key [] names k d = refl
named-key (prim ∷ prims) [] k d = refl
named-key (prim ∷ prims) (name ∷ names) zero d = refl
named-key (prim ∷ prims) (name ∷ names) (suc k) d = named-key prims names k d

-- no name is left
pub named-all : (prims : List Primitive) (names : List (List ℕ)) → (0 < length names → false ≡ true)
    → prims ≡ named prims names
named-all prims [] h = sym (named-none prims)
named-all prims (name ∷ names) h = absurd (false≢true (h (omega arith)))
