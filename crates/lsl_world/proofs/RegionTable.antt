-- What is found in the table of regions, and one more region.
use Rattle.std.proofs.Common.{◌≡◌, ℕ, suc, ◌+◌, ◌<◌, Bool, true, false, cond, List, [], ◌∷◌, ◌++◌, length, map, get_or, drop, position, Option, Some, None, is_some, if◌then◌else◌, refl, ap, sym, ◌∙◌, arith, length-append}
use Rattle.std.specs.Prelude.{String}
use Rattle.std.specs.Cmp.Lexicographic.{nat_list_eq_equiv}
use Rattle.std.specs.List.{position_from}
use Rattle.std.specs.Option.{option_map}
use Rattle.std.specs.Str.{bytes_eq, encode_utf8_all}
use Rattle.std.specs.String.{string_bytes, string_eq}
use Rattle.std.specs.declared.alloc.Global.{Global}
use Rattle.std.proofs.lemmas.List.{length-map, map_push}
use Rattle.std.proofs.lemmas.Iterator.Adapters.{position_from-zero}
use Rattle.indexmap.specs.IndexMap.{insert_entry}
use Rattle.indexmap.proofs.MapLemmas.{Missing-position, insert_entry-absent}
use Rattle.lsl_value.proofs.TextLemmas.{pointwise-encodes}
use Rattle.lsl_world.specs.Regions.{number_from, number_of, with_region}
use Rattle.lsl_world.specs.RegionTable.{IsTable, keys_of, names_of}

-- a key of a region is found exactly by the region
same-region : (key region name : List ℕ) → key ≡ encode_utf8_all name
    → bytes_eq (encode_utf8_all region) key ≡ bytes_eq name region
same-region key region name e =
    ap (bytes_eq (encode_utf8_all region)) e ∙ pointwise-encodes region name ∙ nat_list_eq_equiv.symm region name

found-from : (es : List (String Global × List ℕ)) (i : ℕ) (region : List ℕ)
    → keys_of es ≡ map encode_utf8_all (names_of es)
    → option_map suc
    (position_from (λ k. bytes_eq (encode_utf8_all region) (string_bytes k)) i (map (λ e. e.0) es))
    ≡ number_from (suc i) (names_of es) region
found-from [] i region keyed = refl
found-from (e ∷ es) i region keyed =
    ap (λ (b : Bool). option_map suc (cond b (Some i) (position_from test (i + 1) (map (λ x. x.0) es))))
    (same-region (string_bytes e.0) region e.1 (ap (λ ks. get_or ks 0 []) keyed))
    ∙ go (bytes_eq e.1 region) (found-from es (suc i) region (ap (drop 1) keyed))
  where
    test : String Global → Bool
    test k = bytes_eq (encode_utf8_all region) (string_bytes k)

    go : (b : Bool)
        → option_map suc (position_from test (suc i) (map (λ x. x.0) es)) ≡ number_from (suc (suc i)) (names_of es) region
        → option_map suc (cond b (Some i) (position_from test (i + 1) (map (λ x. x.0) es)))
        ≡ if b then Some (suc i) else number_from (suc (suc i)) (names_of es) region
    go true later = refl
    go false later =
        let next : i + 1 ≡ suc i = omega arith in
        ap (λ (n : ℕ). option_map suc (position_from test n (map (λ x. x.0) es))) next ∙ later

pub number-found : (es : List (String Global × List ℕ)) (key region : List ℕ) → IsTable es
    → key ≡ encode_utf8_all region
    → option_map suc (position (λ k. bytes_eq key (string_bytes k)) (map (λ e. e.0) es))
    ≡ number_of (names_of es) region
number-found es key region t e =
    ap (λ (ks : List ℕ). option_map suc (position (λ k. bytes_eq ks (string_bytes k)) (map (λ x. x.0) es))) e
    ∙ ap (option_map suc)
    (position_from-zero (λ k. bytes_eq (encode_utf8_all region) (string_bytes k)) (map (λ x. x.0) es))
    ∙ found-from es 0 region t.keyed

none-found : (o : Option ℕ) → is_some (option_map suc o) ≡ false → o ≡ None
none-found None e = refl
none-found (Some n) e = absurd (cc)

-- a region that isn't named comes last
pub table-added : (es new : List (String Global × List ℕ)) (key : String Global) (region : List ℕ) → IsTable es
    → string_bytes key ≡ encode_utf8_all region → is_some (number_of (names_of es) region) ≡ false
    → length es < 4294967295 → new ≡ insert_entry string_eq es key region
    → IsTable new × (names_of new ≡ names_of es ++ region ∷ [])
table-added es new key region t made absent room e =
    let none : position (string_eq key) (map (λ x. x.0) es) ≡ None =
    none-found (position (string_eq key) (map (λ x. x.0) es))
    (ap is_some (number-found es (string_bytes key) region t made) ∙ absent) in
    let last : new ≡ es ++ (key, region) ∷ [] =
    e ∙ insert_entry-absent string_eq key region es (Missing-position (string_eq key) es none).absent in
    let names : names_of new ≡ names_of es ++ region ∷ [] =
    ap names_of last ∙ map_push (λ (x : String Global × List ℕ). x.1) es (key, region) in (
      record {
        keyed = ap keys_of last ∙ map_push (λ (x : String Global × List ℕ). string_bytes x.0) es (key, region)
            ∙ ap (λ ks. ks ++ string_bytes key ∷ []) t.keyed
            ∙ ap (λ k. map encode_utf8_all (names_of es) ++ k ∷ []) made
            ∙ sym (map_push encode_utf8_all (names_of es) region) ∙ ap (map encode_utf8_all) (sym names);
        few = omega (
          arith,
          room,
          ap length names,
          length-append (names_of es) (region ∷ []),
          length-map es (λ (x : String Global × List ℕ). x.1),
        );
      },
      names,
    )

pub with-added : (names : List (List ℕ)) (region : List ℕ) → is_some (number_of names region) ≡ false
    → names ++ region ∷ [] ≡ with_region names region
with-added names region absent = sym (ap (λ (b : Bool). if b then names else names ++ region ∷ []) absent)
