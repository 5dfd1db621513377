-- How a request ended, from what the top call says over its shelf, its sink and its link.
use Rattle.std.proofs.Common.{◌≡◌, ℕ, ◌<◌, List, [], ◌∷◌, Option, Some, None, ap, refl, subst, arith, lit<}
use Rattle.std.specs.Prelude.{length, unwrap_or}
use Rattle.lsl_ports.specs.Counts.{Rose}
use Rattle.lsl_ports.specs.Shelf.{Files}
use Rattle.lsl_region.specs.Worlds.{World}
use Rattle.lsl_top.specs.Ends.{Ends, Outside}
use Rattle.lsl_top.specs.Froms.{IsFromWords}
use Rattle.lsl_top.specs.Laws.{copies}
use Rattle.lsl_top.specs.Named.{NamedRose}
use Rattle.lsl_top.specs.Status.{number_of}
use Rattle.lsl_top.specs.Words.{Command}
use Rattle.lsl_top.specs.declared.status.Status.{Status}
use Rattle.lsl_top.specs.declared.status.Status.TheVariants.{Ok, Usage, BadWorld, BadScript, ReadFault, WriteFault, BadImage, NoMemory, BadNote}
use Rattle.lsl_top.proofs.KeptFrom.{kept-from}
use Rattle.lsl_top.proofs.Trips.{copies-fair}
use Rattle.lsl_page.specs.Ended.{Ended, outside_of}
use Rattle.lsl_page.specs.Faults.{IsMissing, faults_at, faults_in}
use Rattle.lsl_page.proofs.Marks.{keeps-behind, keeps-mark, same-behind}

-- a name with a risen count has no file
missing-at : (text : Option (List ℕ)) (missed : ℕ) → Rose (faults_at text 0) (faults_at text missed) → text ≡ None
missing-at None missed rose = refl
missing-at (Some text) missed rose =
    let never : 0 < 0 = rose (lit< tt) in
    absurd (omega (arith, never))

pub missing : (files : Files) (words : Option Command) (missed : ℕ)
    → NamedRose (Some files) words (faults_in files 0) (faults_in files missed) → IsMissing files words
missing files None missed rose = rose
missing files (Some command) missed (name, is, rose) = (name, is, missing-at (files name) missed rose)

-- a sink that reports a mark in front
module _ (files : Files) (words : Option Command) (status : Status) (m n : ℕ) (output : List ℕ)
    (missed refused : ℕ) where
  abbrev before : Outside
  before = outside_of files 0 (m ∷ []) 0

  abbrev after : Outside
  after = outside_of files missed (n ∷ output) refused

  module _ (e : Ends copies words before after status) where
    -- the mark is unchanged, if some world fits the words
    pub mark-of : (from : World) → IsFromWords (Some files) words from → n ≡ m
    mark-of from fits =
        let (trips, went, silent, keeps) = e.kept in
        keeps-mark m n [] output files from words status trips e.usage.1 e.nothing
        (kept-from (Some files) trips words status (Some (m ∷ [])) (Some (n ∷ output))
        (keeps (copies-fair words None None trips went)) from fits)

    -- what follows it ends this way too
    pub ends-behind : Ends copies words (outside_of files 0 [] 0) (outside_of files missed output refused) status
    ends-behind = record {
      usage = e.usage;
      nothing = λ w. same-behind m n [] output (e.nothing w);
      kept = let (trips, went, silent, keeps) = e.kept in (
        trips,
        went,
        silent,
        λ fair. keeps-behind m n [] output (Some files) words status trips (keeps fair),
      );
      read_fault = e.read_fault;
      write_fault = e.write_fault;
      complete = λ fs from trips command answer held is answers calm.
          e.complete fs from trips command answer held is answers (record { reads = calm.reads; writes = calm.writes });
      headline = λ fs from command trips more lines held is tells. absurd (cc);
      unchanged = e.unchanged;
      reads_counted = e.reads_counted;
      writes_counted = e.writes_counted;
      links_counted = e.links_counted;
    }

-- a shelf and a sink that counted nothing before, if nothing was written into the buffer
module _ (files others : Files) (words : Option Command) (status : Status) (m n : ℕ) (start output : List ℕ)
    (reads missed writes refused : ℕ)
    (e : Ends copies words (outside_of files reads (m ∷ start) writes) (outside_of others missed (n ∷ output) refused)
    status)
    (fresh : reads ≡ 0) (empty : start ≡ []) (calm : writes ≡ 0) (from : World)
    (fits : IsFromWords (Some files) words from) where
  abbrev after-files : Files → Outside
  after-files fs = outside_of fs missed (n ∷ output) refused

  from-nothing : Ends copies words (outside_of files 0 (m ∷ []) 0) (after-files files) status
  from-nothing =
      subst (λ (fs : Files). Ends copies words (outside_of files 0 (m ∷ []) 0) (after-files fs) status)
      (ap (λ (held : Option Files). unwrap_or held files) e.unchanged)
      (subst (λ (k : ℕ). Ends copies words (outside_of files 0 (m ∷ []) k) (after-files others) status) calm
      (subst (λ (xs : List ℕ). Ends copies words (outside_of files 0 (m ∷ xs) writes) (after-files others) status) empty
      (subst (λ (k : ℕ). Ends copies words (outside_of files k (m ∷ start) writes) (after-files others) status)
      fresh e)))

  pub same-mark : n ≡ m
  same-mark = mark-of files words status m n output missed refused from-nothing from fits

  pub ended-of : (room : ℕ) → (0 < refused → length output ≡ room) → Ended files words room status output
  ended-of room full = record {
    missed = missed;
    refused = refused;
    ends = ends-behind files words status m n output missed refused from-nothing;
    full = full;
  }

-- at a failed read a file is missing
pub missing-of : (files : Files) (words : Option Command) (room : ℕ) (status : Status) (output : List ℕ)
    → Ended files words room status output → number_of status ≡ number_of ReadFault → IsMissing files words
missing-of files words room ReadFault output ended e = missing files words ended.missed (ended.ends.read_fault refl)
missing-of files words room Ok output ended e = absurd (omega (arith, e))
missing-of files words room Usage output ended e = absurd (omega (arith, e))
missing-of files words room BadWorld output ended e = absurd (omega (arith, e))
missing-of files words room BadScript output ended e = absurd (omega (arith, e))
missing-of files words room WriteFault output ended e = absurd (omega (arith, e))
missing-of files words room BadImage output ended e = absurd (omega (arith, e))
missing-of files words room NoMemory output ended e = absurd (omega (arith, e))
missing-of files words room BadNote output ended e = absurd (omega (arith, e))

-- at a failed write the buffer is full
pub full-of : (files : Files) (words : Option Command) (room : ℕ) (status : Status) (output : List ℕ)
    → Ended files words room status output → number_of status ≡ number_of WriteFault → length output ≡ room
full-of files words room WriteFault output ended e = ended.full (ended.ends.write_fault refl (lit< tt))
full-of files words room Ok output ended e = absurd (omega (arith, e))
full-of files words room Usage output ended e = absurd (omega (arith, e))
full-of files words room BadWorld output ended e = absurd (omega (arith, e))
full-of files words room BadScript output ended e = absurd (omega (arith, e))
full-of files words room ReadFault output ended e = absurd (omega (arith, e))
full-of files words room BadImage output ended e = absurd (omega (arith, e))
full-of files words room NoMemory output ended e = absurd (omega (arith, e))
full-of files words room BadNote output ended e = absurd (omega (arith, e))
