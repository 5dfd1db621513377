-- What a table of names keeps.
use Rattle.std.specs.Prelude.{◌≡◌, ◌<◌, ℕ, Option, List, [], ◌∷◌, length, map, String}
use Rattle.std.specs.Option.{option_flatten}
use Rattle.std.specs.HashMap.{get_by_text, HashMap}
use Rattle.std.specs.declared.alloc.Global.{Global}
use Rattle.lsl_bodies.specs.declared.names.Entry.{Entry}
use Rattle.lsl_bodies.specs.Names.{nearest}
use Rattle.lsl_bodies.specs.Places.{texts_of, text_at}

-- the names and what each hides, the latest first; the texts are the names by their places
abbrev pub rows_behind : List (List ℕ) → List Entry → List (List ℕ × Option ℕ) → List (List ℕ × Option ℕ)
rows_behind texts [] rows = rows
rows_behind texts (e ∷ es) rows = rows_behind texts es ((text_at texts e.place, e.hidden) ∷ rows)

abbrev pub names_in : List (List ℕ × Option ℕ) → List (List ℕ)
names_in rows = map (λ r. r.0) rows

abbrev pub names_of : List (List ℕ) → List Entry → List (List ℕ)
names_of texts es = names_in (rows_behind texts es [])

-- each name hides the latest of the same name before it
abbrev pub Hides : List (List ℕ × Option ℕ) → Type 0
Hides [] = Unit {0}
Hides (r ∷ rows) = (r.1 ≡ nearest r.0 (names_in rows)) × Hides rows

-- each entry has one of the first places
abbrev pub Placed : ℕ → List Entry → Type 0
Placed count [] = Unit {0}
Placed count (e ∷ es) = (e.place < count) × Placed count es

module _ {S : Type 0} where
  pub record IsTable (table : HashMap (String Global) (Option ℕ) S) (es : List Entry) : Type 0 where
    pub finds : (name : List ℕ) → option_flatten (get_by_text table name) ≡ nearest name (names_of (texts_of table) es)
    pub hides : Hides (rows_behind (texts_of table) es [])
    pub placed : Placed (length (texts_of table)) es
