-- The machine doesn't look at points, so a run can be followed over the draft.
use Rattle.std.proofs.Common.{◌≡◌, ℕ, ◌+◌, List, [], ◌∷◌, ◌++◌, length, Option, Some, None, option_map, refl, sym, ap, ◌∙◌, subst, arith, append_assoc, length-append, slice_get}
use Rattle.lsl_value.specs.declared.tagged.Value.{Value}
use Rattle.lsl_running.specs.declared.kept.Kept.{Kept}
use Rattle.lsl_code.specs.declared.instructions.Instr.{Instr}
use Rattle.lsl_code.specs.declared.instructions.Instr.TheVariants.{Tick, Call}
use Rattle.lsl_code.specs.Acts.{act}
use Rattle.lsl_code.specs.Bodies.{Body, plain_body, instruction_in}
use Rattle.lsl_code.specs.Drafts.{finished}
use Rattle.lsl_code.specs.Kinds.{Scope}
use Rattle.lsl_code.specs.Pieces.{HasAt}
use Rattle.lsl_code.specs.Wholes.{with_line, lines_in, seen}
use Rattle.lsl_code.proofs.Reading.{draft_read_at}

-- an instruction does the same with its line in place of its point
pub act_seen : (lines : List ℕ) (o : Option Instr) (bodies : List Body) (g : Kept) (held : ℕ)
    (sl ops : List Value) → act bodies o g held sl ops ≡ act bodies (option_map (with_line lines) o) g held sl ops
act_seen lines None bodies g held sl ops = refl
act_seen lines (Some (Tick point)) bodies g held sl ops = refl
act_seen lines (Some (Call f point)) bodies g held sl ops = refl
act_seen lines (Some i) bodies g held sl ops = refl

-- in a function that is built from a draft, the draft is seen
pub seen_draft : (bodies : List Body) (f : ℕ) (name : List ℕ) (s : Scope) (params : ℕ) (d : List Instr)
    → slice_get bodies f ≡ Some (plain_body (finished name s params d)) → (place : ℕ)
    → seen bodies f place ≡ slice_get d place
seen_draft bodies f name s params d there place =
    ap (λ o. option_map (with_line (lines_in o)) (instruction_in o place)) there ∙ draft_read_at d place

pub has_front : (bodies : List Body) (f place : ℕ) (a b : List Instr) → HasAt bodies f place (a ++ b)
    → HasAt bodies f place a
has_front bodies f place [] b h = tt
has_front bodies f place (i ∷ a) b h = (h.0, has_front bodies f (place + 1) a b h.1)

pub has_back : (bodies : List Body) (f place : ℕ) (a b : List Instr) → HasAt bodies f place (a ++ b)
    → HasAt bodies f (place + length a) b
has_back bodies f place [] b h = let e : place ≡ place + 0 = omega arith in subst (λ n. HasAt bodies f n b) e h
has_back bodies f place (i ∷ a) b h =
    let e : place + 1 + length a ≡ place + length (i ∷ a) = omega arith in
    subst (λ n. HasAt bodies f n b) e (has_back bodies f (place + 1) a b h.1)

seam : (pre : List Instr) (i : Instr) (is : List Instr) → slice_get (pre ++ i ∷ is) (length pre) ≡ Some i
seam [] i is = refl
seam (x ∷ pre) i is = seam pre i is

has_from : (bodies : List Body) (f : ℕ) (d is pre : List Instr)
    → ((place : ℕ) → seen bodies f place ≡ slice_get d place) → d ≡ pre ++ is → HasAt bodies f (length pre) is
has_from bodies f d [] pre h c = tt
has_from bodies f d (i ∷ is) pre h c =
    let n : length (pre ++ i ∷ []) ≡ length pre + 1 = omega (arith, length-append pre (i ∷ [])) in
    let rest = has_from bodies f d is (pre ++ i ∷ []) h (c ∙ sym (append_assoc pre (i ∷ []) is)) in
    (h (length pre) ∙ ap (λ l. slice_get l (length pre)) c ∙ seam pre i is, subst (λ m. HasAt bodies f m is) n rest)

-- a function that is built from a draft has all of it
pub has_draft : (bodies : List Body) (f : ℕ) (name : List ℕ) (s : Scope) (params : ℕ) (d : List Instr)
    → slice_get bodies f ≡ Some (plain_body (finished name s params d)) → HasAt bodies f 0 d
has_draft bodies f name s params d there = has_from bodies f d d [] (seen_draft bodies f name s params d there) refl
