-- What holds of the first bytes of a script's file, one more than a script may have, holds of the file.
use Rattle.std.proofs.Common.{◌≡◌, ℕ, ◌<◌, ◌≤◌, List, length, inl, inr, subst, arith}
use Rattle.std.proofs.lemmas.List.{take_all, length-take}
use Rattle.std.proofs.lemmas.Bool.{cases_lt}
use Rattle.lsl_ports.specs.Shelf.{head_of}
use Rattle.lsl_lex.specs.Lexed.{LexFirst, IsFirstFault}
use Rattle.lsl_lex.specs.declared.faults.LexFault.{LexFault}
use Rattle.lsl_lex.specs.declared.faults.LexKind.{LexKind}
use Rattle.lsl_lex.specs.declared.faults.LexKind.TheVariants.{NotText, StringEnd, CommentEnd, FloatLiteral, StrayCharacter, TextTooLong}
use Rattle.lsl_tree.specs.Program.{Program}
use Rattle.lsl_build.specs.Accepted.{Accepted}
use Rattle.lsl_build.specs.Faults.{FirstFault}
use Rattle.lsl_build.specs.declared.faults.BuildFault.{BuildFault}

head_short : (file : List ℕ) → length file ≤ 65536 → head_of 65536 file ≡ file
head_short file short = take_all 65537 file (omega arith)

head_long : (file : List ℕ) → 65536 < length file → 65536 < length (head_of 65536 file)
head_long file long = omega (arith, length-take 65537 file)

-- what is accepted is all of the file
pub accepted-whole : (file : List ℕ) (program : Program) → Accepted (head_of 65536 file) program
    → head_of 65536 file ≡ file
accepted-whole file program accepted =
    take_all 65537 file (omega (arith, length-take 65537 file, accepted.1.lexed.source.short))

-- bytes that are too many have the lexical fault of that, and no other
long_fault : (head file : List ℕ) (fault : LexFault) → 65536 < length head → 65536 < length file
    → LexFirst head fault → LexFirst file fault
long_fault head file fault many long first = (first.0, kinds fault.kind first.1, first.2)
  where
    kinds : (kind : LexKind) → IsFirstFault head kind first.0 → IsFirstFault file kind first.0
    kinds TextTooLong f = (long, f.1)
    kinds NotText f = absurd (omega (arith, f.0))
    kinds StringEnd f = absurd (omega (arith, f.source.short))
    kinds CommentEnd f = absurd (omega (arith, f.source.short))
    kinds FloatLiteral f = absurd (omega (arith, f.source.short))
    kinds StrayCharacter f = absurd (omega (arith, f.source.short))

long_first : (head file : List ℕ) (fault : BuildFault) → 65536 < length head → 65536 < length file
    → FirstFault head fault → FirstFault file fault
long_first head file fault many long (inl l) =
    inl (record {
      lexical = l.lexical;
      first = long_fault head file l.lexical many long l.first;
      fault_is = l.fault_is;
    })
long_first head file fault many long (inr (inl s)) = absurd (omega (arith, s.lexed.source.short))
long_first head file fault many long (inr (inr s)) = absurd (omega (arith, s.lexed.source.short))

pub first-head : (file : List ℕ) (fault : BuildFault) → FirstFault (head_of 65536 file) fault → FirstFault file fault
first-head file fault refused = elim (cases_lt 65536 (length file)) [
  | inl long ↦ long_first (head_of 65536 file) file fault (head_long file long) long refused
  | inr short ↦ subst (λ (z : List ℕ). FirstFault z fault) (head_short file short) refused
]
