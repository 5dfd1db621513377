-- The effect on the places of names as one is noted.
use Rattle.std.proofs.Common.{◌≡◌, ℕ, Option, Some, None, List, [], ◌∷◌, ◌++◌, map, length, slice_get, refl, sym, ap}
use Rattle.std.proofs.Common.{◌∙◌, subst, arith}
use Rattle.std.specs.Prelude.{String}
use Rattle.std.specs.Option.{option_map}
use Rattle.std.specs.Map.{keys_of, lookup_key}
use Rattle.std.specs.HashMap.{get, HashMap, UpdatesBy, IsUnique}
use Rattle.std.specs.String.{string_bytes, string_eq, string_eq_equiv}
use Rattle.std.specs.Str.{bytes_eq}
use Rattle.std.specs.declared.alloc.Global.{Global}
use Rattle.std.proofs.lemmas.Slice.Eq.{bytes_eq-Decides}
use Rattle.std.proofs.lemmas.Option.{slice_get-map, get_or_from_slice_get}
use Rattle.std.proofs.lemmas.Map.Made.{lookup_key_passes}
use Rattle.indexmap.specs.IndexMap.{insert_entry, with_value_at}
use Rattle.indexmap.proofs.CallerLemmas.{insert_entry-new, keys-with_value_at, updates-with_value_at}
use Rattle.lsl_bodies.specs.Places.{text_at, texts_of}

stands_in : (es : List (String Global × Option ℕ)) (place : ℕ) (k : String Global) (v : Option ℕ)
    → slice_get es place ≡ Some (k, v) → slice_get (map string_bytes (keys_of es)) place ≡ Some (string_bytes k)
stands_in es place k v h =
    slice_get-map string_bytes (keys_of es) place
    ∙ (ap (option_map string_bytes) (slice_get-map (λ (e : String Global × Option ℕ). e.0) es place)
    ∙ ap (λ (o : Option (String Global × Option ℕ)). option_map string_bytes (option_map (λ e. e.0) o)) h)

grown_texts : (es : List (String Global × Option ℕ)) (k : String Global) (v : Option ℕ)
    → map string_bytes (keys_of (es ++ (k, v) ∷ [])) ≡ map string_bytes (keys_of es) ++ string_bytes k ∷ []
grown_texts [] k v = refl
grown_texts (e ∷ es) k v = ap (λ (ts : List (List ℕ)). string_bytes e.0 ∷ ts) (grown_texts es k v)

last_text : (es : List (String Global × Option ℕ)) (k : String Global) (v : Option ℕ)
    → slice_get (map string_bytes (keys_of (es ++ (k, v) ∷ []))) (length es) ≡ Some (string_bytes k)
last_text [] k v = refl
last_text (e ∷ es) k v = last_text es k v

count_in : (es : List (String Global × Option ℕ)) → length (map string_bytes (keys_of es)) ≡ length es
count_in [] = refl
count_in (e ∷ es) = omega (arith, count_in es)

module _ {S : Type 0} where
  pub length-texts_of : (m : HashMap (String Global) (Option ℕ) S) → length (texts_of m) ≡ length m.entries
  length-texts_of m = count_in m.entries

  pub stands_at : (m : HashMap (String Global) (Option ℕ) S) (place : ℕ) (k : String Global) (v : Option ℕ)
      → slice_get m.entries place ≡ Some (k, v) → slice_get (texts_of m) place ≡ Some (string_bytes k)
  stands_at m place k v h = stands_in m.entries place k v h

  pub text_of_place : (m : HashMap (String Global) (Option ℕ) S) (place : ℕ) (k : String Global) (v : Option ℕ)
      → slice_get m.entries place ≡ Some (k, v) → text_at (texts_of m) place ≡ string_bytes k
  text_of_place m place k v h = get_or_from_slice_get (texts_of m) place (string_bytes k) [] (stands_at m place k v h)

  pub texts_written : (m : HashMap (String Global) (Option ℕ) S) (place : ℕ) (latest : Option ℕ)
      → texts_of (with_value_at m place latest) ≡ texts_of m
  texts_written m place latest = ap (map string_bytes) (keys-with_value_at m place latest)

  pub written : (m : HashMap (String Global) (Option ℕ) S) (place : ℕ) (latest : Option ℕ) (k : String Global)
      (v : Option ℕ)
      → IsUnique string_eq m → slice_get m.entries place ≡ Some (k, v)
      → UpdatesBy string_eq (λ q. bytes_eq (text_at (texts_of m) place) (string_bytes q)) m
      (with_value_at m place latest) (Some latest)
  written m place latest k v unique h =
      subst (λ (t : List ℕ). UpdatesBy string_eq (λ q. bytes_eq t (string_bytes q)) m
      (with_value_at m place latest) (Some latest)) (sym (text_of_place m place k v h))
      (updates-with_value_at m place latest string_eq_equiv unique k v h)

  -- the key that was found by a name has its text
  pub found_text : (m : HashMap (String Global) (Option ℕ) S) (name : List ℕ) (k : String Global)
      → Some k ≡ lookup_key (λ q. bytes_eq name (string_bytes q)) m.entries → name ≡ string_bytes k
  found_text m name k h =
      (bytes_eq-Decides name (string_bytes k)).0
      (lookup_key_passes (λ q. bytes_eq name (string_bytes q)) m.entries k (sym h))

  -- a new name comes last
  pub new_texts : (m n : HashMap (String Global) (Option ℕ) S) (k : String Global) (v : Option ℕ)
      → get string_eq m k ≡ None → n.entries ≡ insert_entry string_eq m.entries k v
      → texts_of n ≡ texts_of m ++ string_bytes k ∷ []
  new_texts m n k v none entries =
      ap (λ (es : List (String Global × Option ℕ)). map string_bytes (keys_of es))
      (entries ∙ insert_entry-new string_eq m k v none) ∙ grown_texts m.entries k v

  pub new_stands : (m n : HashMap (String Global) (Option ℕ) S) (k : String Global) (v : Option ℕ) (place : ℕ)
      → get string_eq m k ≡ None → n.entries ≡ insert_entry string_eq m.entries k v → place ≡ length m.entries
      → slice_get (texts_of n) place ≡ Some (string_bytes k)
  new_stands m n k v place none entries last =
      ap (slice_get (texts_of n)) last
      ∙ (ap (λ (es : List (String Global × Option ℕ)). slice_get (map string_bytes (keys_of es)) (length m.entries))
      (entries ∙ insert_entry-new string_eq m k v none) ∙ last_text m.entries k v)
