-- What a read gives of a shelf on which some files are replaced.
use Rattle.std.proofs.Common.{◌≡◌, ℕ, ◌<◌, false, List, Option, Some, None, subst, arith}
use Rattle.std.specs.Prelude.{IfOk, Result, Ok, Err, slice_index}
use Rattle.std.specs.List.{find}
use Rattle.std.proofs.lemmas.Bool.Decides.{nat_tests}
use Rattle.lsl_ports.specs.declared.Failed.{Failed}
use Rattle.lsl_ports.specs.Shelf.{Copies, CopiesFile, Files, Reads}
use Rattle.lsl_trace.specs.Copies.{held_over, is_aside, is_named, text_over}
use Rattle.lsl_trace.specs.declared.copies.Replaced.{Replaced}

-- a name of bytes isn't aside
pub not-aside : (name : List ℕ) → slice_index name 0 < 256 → is_aside name ≡ false
not-aside name h = grind (arith, nat_tests)

module _ (all : List Replaced) (name : List ℕ) (place : ℕ) (piece : List ℕ) (bytes : is_aside name ≡ false) where
  over : (count : ℕ) (files : Files) (o : Option Replaced) → o ≡ find (is_named name) all
      → CopiesFile (text_over o (files name)) place piece count
      → Reads (held_over all (Some files)) name place piece count
  over count files o e copies =
      rw bytes (subst (λ (o : Option Replaced). CopiesFile (text_over o (files name)) place piece count) e copies)

  pub reads-copy : (count : ℕ) (held : Option Files) (r : Replaced) → Some r ≡ find (is_named name) all
      → Copies r.text.items place piece count → Reads (held_over all held) name place piece count
  reads-copy count None r e copies = tt
  reads-copy count (Some files) r e copies = over count files (Some r) e copies

  reads-below : (count : ℕ) (held : Option Files) → None ≡ find (is_named name) all → Reads held name place piece count
      → Reads (held_over all held) name place piece count
  reads-below count None e reads = tt
  reads-below count (Some files) e reads = over count files None e reads

  pub reads-other : (read : Result ℕ Failed) (held : Option Files) → None ≡ find (is_named name) all
      → IfOk read (λ count. Reads held name place piece count)
      → IfOk read (λ count. Reads (held_over all held) name place piece count)
  reads-other (Ok count) held e reads = reads-below count held e reads
  reads-other (Err fault) held e reads = tt
