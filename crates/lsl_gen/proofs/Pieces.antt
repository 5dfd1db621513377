-- Pieces of a draft in the code of a function.
use Rattle.std.proofs.Common.{◌≡◌, ℕ, ◌+◌, ◌<◌, List, [], ◌∷◌, ◌++◌, length, Some, option_map, refl, sym, ap, ◌∙◌, subst, arith, append_assoc, length-append, slice_get}
use Rattle.std.proofs.lemmas.Option.{slice_get-get_or}
use Rattle.std.proofs.Math.Seq.{get_or-append_seam}
use Rattle.lsl_code.specs.declared.instructions.Instr.{Instr}
use Rattle.lsl_code.specs.Bodies.{Body, plain_body, instruction_in}
use Rattle.lsl_code.specs.Drafts.{finished}
use Rattle.lsl_code.specs.Kinds.{Scope}
use Rattle.lsl_code.specs.Pieces.{HasAt}
use Rattle.lsl_code.specs.Wholes.{seen, with_line, lines_in}
use Rattle.lsl_gen.proofs.Drafts.{draft_reads}

pub has_front : (bodies : List Body) (f place : ℕ) (a b : List Instr) → HasAt bodies f place (a ++ b)
    → HasAt bodies f place a
has_front bodies f place [] b h = tt
has_front bodies f place (i ∷ a) b h = (h.0, has_front bodies f (place + 1) a b h.1)

pub has_back : (bodies : List Body) (f place : ℕ) (a b : List Instr) → HasAt bodies f place (a ++ b)
    → HasAt bodies f (place + length a) b
has_back bodies f place [] b h = let e : place ≡ place + 0 = omega arith in subst (λ n. HasAt bodies f n b) e h
has_back bodies f place (i ∷ a) b h =
    let e : place + 1 + length a ≡ place + length (i ∷ a) = omega arith in
    subst (λ n. HasAt bodies f n b) e (has_back bodies f (place + 1) a b h.1)

-- after a piece of this length
pub has_behind : (bodies : List Body) (f place n : ℕ) (a b : List Instr) → length a ≡ n
    → HasAt bodies f place (a ++ b) → HasAt bodies f (place + n) b
has_behind bodies f place n a b e h = subst (λ m. HasAt bodies f (place + m) b) e (has_back bodies f place a b h)

pub last_at : (bodies : List Body) (f place : ℕ) (a : List Instr) (i : Instr)
    → HasAt bodies f place (a ++ i ∷ []) → seen bodies f (place + length a) ≡ Some i
last_at bodies f place a i h = (has_back bodies f place a (i ∷ []) h).0

pub last_end : (place : ℕ) (a : List Instr) (i : Instr) → place + length a + 1 ≡ place + length (a ++ i ∷ [])
last_end place a i = omega (arith, length-append a (i ∷ []))

seam : (before : List Instr) (i : Instr) (is : List Instr) → slice_get (before ++ i ∷ is) (length before) ≡ Some i
seam before i is =
    let lt : length before < length (before ++ i ∷ is) = omega (arith, length-append before (i ∷ is)) in
    slice_get-get_or (before ++ i ∷ is) (length before) i lt ∙ ap Some (get_or-append_seam before i is i)

has_from : (bodies : List Body) (f : ℕ) (d is before : List Instr) → ((j : ℕ) → seen bodies f j ≡ slice_get d j)
    → d ≡ before ++ is → HasAt bodies f (length before) is
has_from bodies f d [] before e c = tt
has_from bodies f d (i ∷ is) before e c =
    let n : length (before ++ i ∷ []) ≡ length before + 1 = omega (arith, length-append before (i ∷ [])) in
    let rest = has_from bodies f d is (before ++ i ∷ []) e (c ∙ sym (append_assoc before (i ∷ []) is)) in (
      e (length before) ∙ ap (λ l. slice_get l (length before)) c
          ∙ seam before i is,
      subst (λ m. HasAt bodies f m is) n rest,
    )

-- the code of a draft can be seen as the draft
pub draft_seen : (bodies : List Body) (f : ℕ) (name : List ℕ) (s : Scope) (params : ℕ) (d : List Instr)
    → slice_get bodies f ≡ Some (plain_body (finished name s params d)) → (j : ℕ) → seen bodies f j ≡ slice_get d j
draft_seen bodies f name s params d e j =
    ap (λ o. option_map (with_line (lines_in o)) (instruction_in o j)) e ∙ draft_reads d j

-- and is at the function's start
pub draft_stands : (bodies : List Body) (f : ℕ) (name : List ℕ) (s : Scope) (params : ℕ) (d : List Instr)
    → slice_get bodies f ≡ Some (plain_body (finished name s params d)) → HasAt bodies f 0 d
draft_stands bodies f name s params d e = has_from bodies f d d [] (draft_seen bodies f name s params d e) refl
