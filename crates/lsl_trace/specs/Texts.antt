-- The text of a trace: tables, and then the lines of entries that say a journal.
use Rattle.std.specs.Prelude.{◌≡◌, ℕ, nat_le, Bool, ◌&&◌, List, ◌++◌, ◌⊎◌, filter, All}
use Rattle.std.specs.List.{flat_map}
use Rattle.lsl_marks.specs.Lines.{line_of}
use Rattle.lsl_marks.specs.Said.{said_in}
use Rattle.lsl_marks.specs.declared.entries.Entry.{Entry}

-- whether the step of an entry is asked for
abbrev pub asks_for : (first last : ℕ) → Entry → Bool
asks_for first last e = nat_le first e.step && nat_le e.step last

-- These entries are written: those of the steps that are asked for, or all if no steps are known. They are all where
-- all steps are asked for.
pub record AreAsked (first last : ℕ) (entries asked : List Entry) : Type 0 where
  pub each : (asked ≡ filter (asks_for first last) entries)
      ⊎ ((asked ≡ entries) × All (λ (e : Entry). e.step ≡ 0) entries)
  pub all : first ≡ 0 → last ≡ 18446744073709551615 → asked ≡ entries

-- The text has some tables, and then the lines of the entries in the steps that are asked for. All entries together say
-- this journal.
pub record Traces (first last : ℕ) (journal text : List ℕ) : Type 0 where
  pub tables : List ℕ
  pub entries : List Entry
  pub asked : List Entry
  pub are_asked : AreAsked first last entries asked
  pub says : said_in entries ≡ journal
  pub written : text ≡ tables ++ flat_map line_of asked
