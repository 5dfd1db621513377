-- What a table of names keeps as names come and go.
use Rattle.std.proofs.Common.{◌≡◌, ℕ, ◌+◌, Bool, true, false, cond, Option, Some, List, [], ◌∷◌, ◌++◌, length}
use Rattle.std.proofs.Common.{length-append, refl, sym, ap, ◌∙◌, subst, arith, drop, ◌<◌, ◌≤◌, ◌-◌}
use Rattle.std.proofs.lemmas.Grind.{common_steps}
use Rattle.std.proofs.lemmas.List.{get_or_append_left}
use Rattle.std.proofs.lemmas.Option.{get_or_from_slice_get, slice_get_within}
use Rattle.std.specs.Prelude.{String}
use Rattle.std.specs.Option.{option_flatten}
use Rattle.std.specs.HashMap.{get_by_text, HashMap, UpdatesBy}
use Rattle.std.specs.String.{string_bytes, string_eq}
use Rattle.std.specs.Str.{bytes_eq}
use Rattle.std.specs.declared.alloc.Global.{Global}
use Rattle.std.proofs.lemmas.Map.Text.{hash_map_updates_text}
use Rattle.std.proofs.lemmas.Slice.Eq.{bytes_eq-Decides}
use Rattle.lsl_bodies.specs.declared.names.Entry.{Entry}
use Rattle.lsl_bodies.specs.Names.{nearest}
use Rattle.lsl_bodies.specs.Places.{text_at, texts_of, IsNoted}
use Rattle.lsl_bodies.specs.NameTable.{rows_behind, names_in, names_of, Hides, Placed, IsTable}

pub rows_behind-append : (texts : List (List ℕ)) (es : List Entry) (e : Entry) (rows : List (List ℕ × Option ℕ))
    → rows_behind texts (es ++ e ∷ []) rows ≡ (text_at texts e.place, e.hidden) ∷ rows_behind texts es rows
rows_behind-append texts [] e rows = refl
rows_behind-append texts (x ∷ es) e rows = rows_behind-append texts es e ((text_at texts x.place, x.hidden) ∷ rows)

pub names_of-append : (texts : List (List ℕ)) (es : List Entry) (e : Entry)
    → names_of texts (es ++ e ∷ []) ≡ text_at texts e.place ∷ names_of texts es
names_of-append texts es e = ap names_in (rows_behind-append texts es e [])

length_rows : (texts : List (List ℕ)) (es : List Entry) (rows : List (List ℕ × Option ℕ))
    → length (names_in (rows_behind texts es rows)) ≡ length es + length (names_in rows)
length_rows texts [] rows = omega arith
length_rows texts (e ∷ es) rows =
    omega (arith, length_rows texts es ((text_at texts e.place, e.hidden) ∷ rows))

pub length-names_of : (texts : List (List ℕ)) (es : List Entry) → length (names_of texts es) ≡ length es
length-names_of texts es = omega (arith, length_rows texts es [])

-- places after the first ones change nothing for entries that have those
rows_grown : (texts more : List (List ℕ)) (es : List Entry) (rows : List (List ℕ × Option ℕ))
    → Placed (length texts) es → rows_behind (texts ++ more) es rows ≡ rows_behind texts es rows
rows_grown texts more [] rows h = refl
rows_grown texts more (e ∷ es) rows h =
    rows_grown texts more es ((text_at (texts ++ more) e.place, e.hidden) ∷ rows) h.1
    ∙ ap (λ (t : List ℕ). rows_behind texts es ((t, e.hidden) ∷ rows))
    (get_or_append_left texts more [] e.place h.0)

placed_more : (few many : ℕ) (es : List Entry) → few ≤ many → Placed few es → Placed many es
placed_more few many [] le h = tt
placed_more few many (e ∷ es) le h = (omega (arith, le, h.0), placed_more few many es le h.1)

placed_push : (count : ℕ) (es : List Entry) (e : Entry) → Placed count es → e.place < count
    → Placed count (es ++ e ∷ [])
placed_push count [] e h lt = (lt, tt)
placed_push count (x ∷ es) e h lt = (h.0, placed_push count es e h.1 lt)

placed_rest : (count : ℕ) (es : List Entry) (e : Entry) → Placed count (es ++ e ∷ []) → Placed count es
placed_rest count [] e h = tt
placed_rest count (x ∷ es) e h = (h.0, placed_rest count es e h.1)

placed_last : (count : ℕ) (es : List Entry) (e : Entry) → Placed count (es ++ e ∷ []) → e.place < count
placed_last count [] e h = h.0
placed_last count (x ∷ es) e h = placed_last count es e h.1

-- what is found by a name, once one name has another latest number
flat_update : (b : Bool) (latest : Option ℕ) (before after : Option (Option ℕ))
    → after ≡ cond b (Some latest) before → option_flatten after ≡ cond b latest (option_flatten before)
flat_update true latest before after h = ap option_flatten h
flat_update false latest before after h = ap option_flatten h

behind : (bs name : List ℕ) (names : List (List ℕ)) (hidden found after : Option ℕ) (b : Bool) → b ≡ bytes_eq bs name
    → hidden ≡ nearest bs names → found ≡ cond b (Some (length names)) (nearest name names)
    → after ≡ cond b hidden found → after ≡ nearest name names
behind bs name names hidden found after true is h f a =
    a ∙ (h ∙ ap (λ (q : List ℕ). nearest q names) ((bytes_eq-Decides bs name).0 (sym is)))
behind bs name names hidden found after false is h f a = a ∙ f

module _ {S : Type 0} where
  rows_pushed : (m n : HashMap (String Global) (Option ℕ) S) (es : List Entry) (e : Entry) (name : List ℕ) (number : ℕ)
      → IsNoted m n name number e.place e.hidden → IsTable m es
      → rows_behind (texts_of n) (es ++ e ∷ []) [] ≡ (name, e.hidden) ∷ rows_behind (texts_of m) es []
  rows_pushed m n es e name number noted before =
      rows_behind-append (texts_of n) es e []
      ∙ (ap (λ (t : List ℕ). (t, e.hidden) ∷ rows_behind (texts_of n) es [])
      (get_or_from_slice_get (texts_of n) e.place name [] noted.stands)
      ∙ ap (λ (rows : List (List ℕ × Option ℕ)). (name, e.hidden) ∷ rows)
      (ap (λ (ts : List (List ℕ)). rows_behind ts es []) noted.grows
      ∙ rows_grown (texts_of m) noted.more es [] before.placed))

  pub names_pushed : (m n : HashMap (String Global) (Option ℕ) S) (es : List Entry) (e : Entry) (name : List ℕ)
      (number : ℕ) → IsNoted m n name number e.place e.hidden → IsTable m es
      → names_of (texts_of n) (es ++ e ∷ []) ≡ name ∷ names_of (texts_of m) es
  names_pushed m n es e name number noted before = ap names_in (rows_pushed m n es e name number noted before)

  pub pushed : (m n : HashMap (String Global) (Option ℕ) S) (es : List Entry) (e : Entry) (name : List ℕ)
      → IsNoted m n name (length es) e.place e.hidden → IsTable m es → IsTable n (es ++ e ∷ [])
  pushed m n es e name noted before =
      let names = names_of (texts_of m) es in
      let more : length (texts_of m) ≤ length (texts_of n) =
      omega (arith, ap length noted.grows, length-append (texts_of m) noted.more) in
      record {
        finds = λ q.
            flat_update (bytes_eq name q) (Some (length es)) (get_by_text m q) (get_by_text n q)
            (hash_map_updates_text name m n (Some (Some (length es))) noted.updates q)
            ∙ (ap (λ (k : ℕ). cond (bytes_eq name q) (Some k) (option_flatten (get_by_text m q)))
            (sym (length-names_of (texts_of m) es))
            ∙ (ap (λ (o : Option ℕ). cond (bytes_eq name q) (Some (length names)) o) (before.finds q)
            ∙ sym (ap (nearest q) (names_pushed m n es e name (length es) noted before))));
        hides = subst Hides (sym (rows_pushed m n es e name (length es) noted before))
            (noted.hidden ∙ before.finds name, before.hides);
        placed = placed_push (length (texts_of n)) es e
            (placed_more (length (texts_of m)) (length (texts_of n)) es more before.placed)
            (slice_get_within (texts_of n) e.place name noted.stands);
      }

  pub place_within : (m : HashMap (String Global) (Option ℕ) S) (all es : List Entry) (e : Entry)
      → all ≡ es ++ e ∷ [] → IsTable m all → e.place < length (texts_of m)
  place_within m all es e split before =
      placed_last (length (texts_of m)) es e (subst (Placed (length (texts_of m))) split before.placed)

  pub popped : (m n : HashMap (String Global) (Option ℕ) S) (all es : List Entry) (e : Entry)
      → all ≡ es ++ e ∷ [] → texts_of n ≡ texts_of m
      → UpdatesBy string_eq (λ k. bytes_eq (text_at (texts_of m) e.place) (string_bytes k)) m n (Some e.hidden)
      → IsTable m all → IsTable n es
  popped m n all es e split texts updates before =
      let text = text_at (texts_of m) e.place in
      let rows : rows_behind (texts_of m) all [] ≡ (text, e.hidden) ∷ rows_behind (texts_of m) es [] =
      ap (λ (l : List Entry). rows_behind (texts_of m) l []) split ∙ rows_behind-append (texts_of m) es e [] in
      let hides : Hides ((text, e.hidden) ∷ rows_behind (texts_of m) es []) = subst Hides rows before.hides in
      record {
        finds = λ name.
            behind text name (names_of (texts_of m) es) e.hidden (option_flatten (get_by_text m name))
            (option_flatten (get_by_text n name)) (bytes_eq text name) refl
            hides.0
            (before.finds name ∙ ap (λ (r : List (List ℕ × Option ℕ)). nearest name (names_in r)) rows)
            (flat_update (bytes_eq text name) e.hidden (get_by_text m name) (get_by_text n name)
            (hash_map_updates_text text m n (Some e.hidden) updates name))
            ∙ ap (λ (ts : List (List ℕ)). nearest name (names_of ts es)) (sym texts);
        hides = subst (λ (ts : List (List ℕ)). Hides (rows_behind ts es [])) (sym texts) hides.1;
        placed = subst (λ (ts : List (List ℕ)). Placed (length ts) es) (sym texts)
            (placed_rest (length (texts_of m)) es e (subst (Placed (length (texts_of m))) split before.placed));
      }

-- a drop of one more
pub drop-one : {X : Type 0} (xs : List X) (n : ℕ) → n < length xs
    → drop (length xs - n) xs ≡ drop (length (drop 1 xs) - n) (drop 1 xs)
drop-one xs n h = grind (arith, common_steps)
