-- A draft can be read from the code that is generated from it, and the machine doesn't look at points.
use Rattle.std.proofs.Common.{◌≡◌, ℕ, zero, suc, List, [], ◌∷◌, ◌++◌, length, Option, Some, None, option_map, refl, sym, ap, ◌∙◌, ap₂, arith, append_assoc, length-append, slice_get}
use Rattle.std.proofs.Math.Seq.{get_or-append_seam}
use Rattle.lsl_value.specs.declared.tagged.Value.{Value}
use Rattle.lsl_running.specs.declared.kept.Kept.{Kept}
use Rattle.lsl_code.specs.declared.instructions.Instr.{Instr}
use Rattle.lsl_code.specs.declared.instructions.Instr.TheVariants.{Tick, Call}
use Rattle.lsl_code.specs.Acts.{act}
use Rattle.lsl_code.specs.Bodies.{Body}
use Rattle.lsl_code.specs.Drafts.{numbered, lines_of}
use Rattle.lsl_code.specs.Wholes.{with_line}

one_more : (before : List ℕ) (line : ℕ) (is : List Instr) (j : ℕ)
    → option_map (with_line ((before ++ line ∷ []) ++ lines_of is))
    (slice_get (numbered is (length (before ++ line ∷ []))) j) ≡ slice_get is j
    → option_map (with_line (before ++ line ∷ lines_of is)) (slice_get (numbered is (suc (length before))) j)
    ≡ slice_get is j
one_more before line is j h =
    let n : suc (length before) ≡ length (before ++ line ∷ []) = omega (arith, length-append before (line ∷ [])) in
    ap₂ (λ l k. option_map (with_line l) (slice_get (numbered is k) j))
    (sym (append_assoc before (line ∷ []) (lines_of is))) n
    ∙ h

reads : (before : List ℕ) (d : List Instr) (j : ℕ)
    → option_map (with_line (before ++ lines_of d)) (slice_get (numbered d (length before)) j) ≡ slice_get d j
reads before [] j = refl
reads before (Tick line ∷ is) zero = ap (λ l. Some (Tick l)) (get_or-append_seam before line (lines_of is) 0)
reads before (Call f line ∷ is) zero = ap (λ l. Some (Call f l)) (get_or-append_seam before line (lines_of is) 0)
reads before (i ∷ is) zero = refl
reads before (Tick line ∷ is) (suc j) = one_more before line is j (reads (before ++ line ∷ []) is j)
reads before (Call f line ∷ is) (suc j) = one_more before line is j (reads (before ++ line ∷ []) is j)
reads before (i ∷ is) (suc j) = reads before is j

pub draft_reads : (d : List Instr) (j : ℕ)
    → option_map (with_line (lines_of d)) (slice_get (numbered d 0) j) ≡ slice_get d j
draft_reads d j = reads [] d j

pub act_seen : (lines : List ℕ) (i : Option Instr) (bodies : List Body) (kept : Kept) (held : ℕ)
    (slots ops : List Value)
    → act bodies i kept held slots ops ≡ act bodies (option_map (with_line lines) i) kept held slots ops
act_seen lines None bodies kept held slots ops = refl
act_seen lines (Some (Tick point)) bodies kept held slots ops = refl
act_seen lines (Some (Call f point)) bodies kept held slots ops = refl
act_seen lines (Some i) bodies kept held slots ops = refl
