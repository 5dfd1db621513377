-- Commands one after another, and what was accepted of them.
use Rattle.std.proofs.Common.{◌≡◌, ◌∙◌, refl, sym, ap, ℕ, ◌≤◌, ◌<◌, Bool, true, false, cond, eqb, List, [], ◌∷◌, ◌++◌, length, fold, Option, Some, None, arith}
use Rattle.std.specs.Prelude.{if◌then◌else◌, nat_lt}
use Rattle.std.specs.List.{cons_option, filter_map}
use Rattle.std.proofs.lemmas.Bool.Decides.{nat_tests}
use Rattle.std.proofs.lemmas.List.Elements.{filter_map-append}
use Rattle.lsl_post.specs.declared.parts.Pair.{Pair}
use Rattle.lsl_image.specs.Object.{pair}
use Rattle.lsl_image.specs.Valid.{IsPair, IsStore}
use Rattle.lsl_data.specs.declared.answers.Wrote.{Wrote}
use Rattle.lsl_data.specs.declared.answers.Wrote.TheVariants.{Stored, Deleted, NoKey, NotFound, Same, Full}
use Rattle.lsl_data.specs.Answers.{delete_answer, holds, pairs_after, write_answer}
use Rattle.lsl_data.specs.History.{Command, Write, Delete, Reset, accepted_from, accepted_of, after_command, if_accepted, last_told, tells}
use Rattle.lsl_data.specs.Laws.{ReadsAreLastAccepted, StoresAreKept}
use Rattle.lsl_data.specs.Pairs.{bytes_of, pair_at, same_name, value_at, with_pair}
use Rattle.lsl_data.proofs.Answering.{never-stored}
use Rattle.lsl_data.proofs.Keeping.{store-none, store-with_pair, store-without}
use Rattle.lsl_data.proofs.PairLemmas.{value-with_pair, value-without}

-- what is known after a first part
told-behind : (v : Option (List ℕ)) (xs ys : List (Option (List ℕ)))
    → last_told (last_told (v ∷ xs) ∷ ys) ≡ last_told (v ∷ (xs ++ ys))
told-behind v [] ys = refl
told-behind v (x ∷ xs) ys = told-behind x xs ys

-- a write or a delete records what it did
answered : (w : Wrote) (pairs : List Pair) (n v name : List ℕ)
    → value_at (pairs_after w pairs n v) name
    ≡ last_told (value_at pairs name ∷ filter_map (tells name) (if_accepted w n v))
answered Stored pairs n v name = value-with_pair pairs (pair n v) name ∙ by (same_name name n)
  where
    by : (b : Bool) → cond b (Some v) (value_at pairs name)
        ≡ last_told (value_at pairs name ∷ cons_option (if b then Some (Some v) else None) [])
    by true = refl
    by false = refl
answered Deleted pairs n v name = value-without pairs n name ∙ by (same_name name n)
  where
    by : (b : Bool) → cond b None (value_at pairs name)
        ≡ last_told (value_at pairs name ∷ cons_option (if b then Some None else None) [])
    by true = refl
    by false = refl
answered NoKey pairs n v name = refl
answered NotFound pairs n v name = refl
answered Same pairs n v name = refl
answered Full pairs n v name = refl

none-there : (name : List ℕ) → value_at [] name ≡ None
unfolding pair_at
none-there name = refl

commanded : (pairs : List Pair) (c : Command) (name : List ℕ)
    → value_at (after_command pairs c) name
    ≡ last_told (value_at pairs name ∷ filter_map (tells name) (accepted_of pairs c))
commanded pairs (Write n v) name = answered (write_answer pairs n v) pairs n v name
commanded pairs (Delete n) name = answered (delete_answer pairs n) pairs n [] name
commanded pairs Reset name = none-there name

reads-from : (commands : List Command) (pairs : List Pair) (name : List ℕ)
    → value_at (fold after_command pairs commands) name
    ≡ last_told (value_at pairs name ∷ filter_map (tells name) (accepted_from pairs commands))
reads-from [] pairs name = refl
reads-from (c ∷ commands) pairs name =
    let now = filter_map (tells name) (accepted_of pairs c) in
    let later = filter_map (tells name) (accepted_from (after_command pairs c) commands) in
    reads-from commands (after_command pairs c) name
    ∙ ap (λ v. last_told (v ∷ later)) (commanded pairs c name)
    ∙ told-behind (value_at pairs name) now later
    ∙ ap (λ told. last_told (value_at pairs name ∷ told))
    (sym (filter_map-append (tells name) (accepted_of pairs c) (accepted_from (after_command pairs c) commands)))

pub reads-are-last : ReadsAreLastAccepted
unfolding pair_at
reads-are-last commands name = reads-from commands [] name
    ∙ first (filter_map (tells name) (accepted_from [] commands))
  where
    first : (told : List (Option (List ℕ))) → last_told (None ∷ told) ≡ last_told told
    first [] = refl
    first (v ∷ told) = refl

-- where a pair was stored, its texts aren't empty and there was room
record HadRoom (a b d : Bool) : Type 0 where
  named : a ≡ false
  valued : b ≡ false
  room : d ≡ false

had-room : (a b c d : Bool) (gone : Wrote) → (gone ≡ Stored → ⊥)
    → (if a then NoKey else if b then gone else if c then Same else if d then Full else Stored) ≡ Stored
    → HadRoom a b d
had-room true b c d gone other e = absurd (let never : ⊥ = cc in never)
had-room false true c d gone other e = absurd (other e)
had-room false false true d gone other e = absurd (let never : ⊥ = cc in never)
had-room false false false true gone other e = absurd (let never : ⊥ = cc in never)
had-room false false false false gone other e = record { named = refl; valued = refl; room = refl }

stored : (pairs : List Pair) (n v : List ℕ) → write_answer pairs n v ≡ Stored
    → IsPair (pair n v) × (bytes_of (with_pair pairs (pair n v)) ≤ 65536)
unfolding write_answer
stored pairs n v e =
    let h = had-room (eqb (length n) 0) (eqb (length v) 0) (holds (value_at pairs n) v)
    (nat_lt 65536 (bytes_of (with_pair pairs (pair n v)))) (delete_answer pairs n) (never-stored pairs n) e in (
      record { name = above (length n) h.named; value = above (length v) h.valued },
      within (bytes_of (with_pair pairs (pair n v))) h.room,
    )
  where
    above : (k : ℕ) → eqb k 0 ≡ false → 0 < k
    above k e = grind (arith, nat_tests)

    within : (k : ℕ) → nat_lt 65536 k ≡ false → k ≤ 65536
    within k e = grind (arith, nat_tests)

kept-after : (w : Wrote) (pairs : List Pair) (n v : List ℕ) → IsStore pairs
    → (w ≡ Stored → IsPair (pair n v) × (bytes_of (with_pair pairs (pair n v)) ≤ 65536))
    → IsStore (pairs_after w pairs n v)
kept-after Stored pairs n v s had = let h = had refl in store-with_pair pairs (pair n v) s h.0 h.1
kept-after Deleted pairs n v s had = store-without pairs n s
kept-after NoKey pairs n v s had = s
kept-after NotFound pairs n v s had = s
kept-after Same pairs n v s had = s
kept-after Full pairs n v s had = s

pub kept-command : (pairs : List Pair) (c : Command) → IsStore pairs → IsStore (after_command pairs c)
kept-command pairs (Write n v) s = kept-after (write_answer pairs n v) pairs n v s (stored pairs n v)
kept-command pairs (Delete n) s =
    kept-after (delete_answer pairs n) pairs n [] s (λ e. absurd (never-stored pairs n e))
kept-command pairs Reset s = store-none

kept-from : (commands : List Command) (pairs : List Pair) → IsStore pairs
    → IsStore (fold after_command pairs commands)
kept-from [] pairs s = s
kept-from (c ∷ commands) pairs s = kept-from commands (after_command pairs c) (kept-command pairs c s)

pub stores-are-kept : StoresAreKept
stores-are-kept commands = kept-from commands [] store-none
