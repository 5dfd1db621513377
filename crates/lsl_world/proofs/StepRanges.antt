-- The numbers of a step that a line says are in their ranges.
use Rattle.std.proofs.Common.{ℕ, ◌<◌, ◌≤◌, List, [], ◌∷◌, length, cond, codes, Result, Ok}
use Rattle.std.specs.Prelude.{◌==◌, ◌&&◌, nat_le, nat_lt}
use Rattle.std.proofs.lemmas.Bool.{ltb-true}
use Rattle.std.proofs.lemmas.List.Elements.{All-cons, All-nil}
use Rattle.std.specs.Str.{bytes_eq}
use Rattle.lsl_region.specs.Pausing.{AreGaps}
use Rattle.lsl_lines.specs.Checks.{◌>>=◌, fault_unless}
use Rattle.lsl_lines.specs.Fields.{integer_of, key_of, name_of, natural_of, plain_of, quoted_of}
use Rattle.lsl_lines.specs.Forms as forms
use Rattle.lsl_lines.specs.Forms.{each_gap, form_of, form_of_words, gap_of, gaps_of, number_of, row_of, step_of, ticks_of, utf8_of}
use Rattle.lsl_lines.specs.Words.{words_of}
use Rattle.lsl_lines.specs.declared.faults.FileKind.{FileKind}
use Rattle.lsl_lines.specs.declared.faults.FileKind.TheVariants.{BadLine}
use Rattle.lsl_lines.specs.declared.file.Step.{Step as TheStep}
use Rattle.lsl_lines.specs.declared.file.Step.TheVariants.{Clock, Say, Touch, Changed, Rez, Go, Run, Pause, Cross}
use Rattle.lsl_lines.specs.declared.forms.Line.{Line}
use Rattle.lsl_lines.specs.declared.forms.Line.TheVariants.{Object, Prim, Script, Note, Begin, Step, End}
use Rattle.lsl_lines.specs.declared.words.Word.{Word}
use Rattle.lsl_world.proofs.Passing.{Fit, IsKey, fit-cond, fit-fault_unless, fit-ok, fit-then, key-fits, natural-fits}

-- the time and the counts of a step are in their ranges, and the keys of prims are valid ones
abbrev pub StepFits : TheStep → Type 0
StepFits (Clock time) = time ≤ 2147483647999
StepFits (Go script most) = most ≤ 1000000
StepFits (Run most) = most ≤ 1000000
StepFits (Say channel name key text) = Unit {0}
StepFits (Touch object link key name) = Unit {0}
StepFits (Changed object flags) = Unit {0}
StepFits (Rez object n) = Unit {0}
StepFits (Pause gaps) = AreGaps gaps
StepFits (Cross object region) = Unit {0}

abbrev pub LineFits : Line → Type 0
LineFits (Step step) = StepFits step
LineFits (Object k n o r) = IsKey k
LineFits (Prim k n) = IsKey k
LineFits (Script n f) = Unit {0}
LineFits (Note n f) = Unit {0}
LineFits Begin = Unit {0}
LineFits End = Unit {0}

-- one field is read, and then the others
then-fits : {A : Type 0} (m : Result A FileKind) (f : A → Result TheStep FileKind) → ((x : A) → Fit StepFits (f x))
    → Fit StepFits (m >>= f)
then-fits m f h = fit-then StepFits m f (λ x e. h x)

then-line : {A : Type 0} (m : Result A FileKind) (f : A → Result Line FileKind) → ((x : A) → Fit LineFits (f x))
    → Fit LineFits (m >>= f)
then-line m f h = fit-then LineFits m f (λ x e. h x)

clock-fits : (fields : List Word) → Fit StepFits (forms.clock_of fields)
clock-fits [] = tt
clock-fits (time ∷ []) = fit-then StepFits (natural_of 2147483647999 time) (λ ms. Ok (Clock ms))
    (λ ms e. fit-ok (λ n. n ≤ 2147483647999) (natural_of 2147483647999 time) ms e (natural-fits 2147483647999 time))
clock-fits (a ∷ b ∷ more) = tt

run-fits : (fields : List Word) → Fit StepFits (forms.run_of fields)
run-fits [] = tt
run-fits (ticks ∷ []) = fit-then StepFits (ticks_of ticks) (λ t. Ok (Run t))
    (λ t e. fit-ok (λ n. n ≤ 1000000) (ticks_of ticks) t e (natural-fits 1000000 ticks))
run-fits (a ∷ b ∷ more) = tt

go-fits : (fields : List Word) → Fit StepFits (forms.go_of fields)
go-fits [] = tt
go-fits (a ∷ []) = tt
go-fits (script ∷ ticks ∷ []) =
    then-fits (number_of script) (λ s. ticks_of ticks >>= λ t. Ok (Go s t))
    (λ s. fit-then StepFits (ticks_of ticks) (λ t. Ok (Go s t))
    (λ t e. fit-ok (λ n. n ≤ 1000000) (ticks_of ticks) t e (natural-fits 1000000 ticks)))
go-fits (a ∷ b ∷ c ∷ more) = tt

say-fits : (fields : List Word) → Fit StepFits (forms.say_of fields)
say-fits [] = tt
say-fits (a ∷ []) = tt
say-fits (a ∷ b ∷ []) = tt
say-fits (a ∷ b ∷ c ∷ []) = tt
say-fits (channel ∷ speaker ∷ id ∷ text ∷ []) =
    then-fits (integer_of channel) _ (λ c. then-fits (name_of speaker) _ (λ n. then-fits (key_of id) _
    (λ k. then-fits (quoted_of text) _ (λ t. tt))))
say-fits (a ∷ b ∷ c ∷ d ∷ e ∷ more) = tt

touch-fits : (fields : List Word) → Fit StepFits (forms.touch_of fields)
touch-fits [] = tt
touch-fits (a ∷ []) = tt
touch-fits (a ∷ b ∷ []) = tt
touch-fits (a ∷ b ∷ c ∷ []) = tt
touch-fits (object ∷ link ∷ id ∷ toucher ∷ []) =
    then-fits (number_of object) _ (λ o. then-fits (number_of link) _ (λ l. then-fits (key_of id) _
    (λ k. then-fits (name_of toucher) _ (λ n. tt))))
touch-fits (a ∷ b ∷ c ∷ d ∷ e ∷ more) = tt

changed-fits : (fields : List Word) → Fit StepFits (forms.changed_of fields)
changed-fits [] = tt
changed-fits (a ∷ []) = tt
changed-fits (object ∷ flags ∷ []) = then-fits (number_of object) _ (λ o. then-fits (integer_of flags) _ (λ f. tt))
changed-fits (a ∷ b ∷ c ∷ more) = tt

rez-fits : (fields : List Word) → Fit StepFits (forms.rez_of fields)
rez-fits [] = tt
rez-fits (a ∷ []) = tt
rez-fits (object ∷ start ∷ []) = then-fits (number_of object) _ (λ o. then-fits (integer_of start) _ (λ n. tt))
rez-fits (a ∷ b ∷ c ∷ more) = tt

cross-fits : (fields : List Word) → Fit StepFits (forms.cross_of fields)
cross-fits [] = tt
cross-fits (a ∷ []) = tt
cross-fits (object ∷ region ∷ []) = then-fits (number_of object) _ (λ o. then-fits (name_of region) _ (λ r. tt))
cross-fits (a ∷ b ∷ c ∷ more) = tt

gap-fits : (word : Word) → Fit (λ n. 0 < n) (gap_of word)
gap-fits word =
    fit-then (λ n. 0 < n) (ticks_of word) (λ n. fault_unless (nat_lt 0 n) BadLine (Ok n))
    (λ n e. fit-fault_unless (λ n. 0 < n) (nat_lt 0 n) BadLine (Ok n) (λ h. ltb-true 0 n h))

each-gap-fits : (words : List Word) → Fit AreGaps (each_gap words)
each-gap-fits [] = All-nil (λ n. 0 < n)
each-gap-fits (word ∷ words) =
    fit-then AreGaps (gap_of word) (λ gap. each_gap words >>= λ gaps. Ok (gap ∷ gaps))
    (λ gap e. fit-then AreGaps (each_gap words) (λ gaps. Ok (gap ∷ gaps))
    (λ gaps f. All-cons (λ n. 0 < n) gap gaps (fit-ok (λ n. 0 < n) (gap_of word) gap e (gap-fits word))
    (fit-ok AreGaps (each_gap words) gaps f (each-gap-fits words))))

some-gaps-fit : (words : List Word) → Fit AreGaps (gaps_of words)
some-gaps-fit words =
    fit-fault_unless AreGaps (nat_lt 0 (length words) && nat_le (length words) 16) BadLine (each_gap words)
    (λ h. each-gap-fits words)

gaps-fit : (words : List Word) → Fit StepFits (gaps_of words >>= λ gaps. Ok (Pause gaps))
gaps-fit words =
    fit-then StepFits (gaps_of words) (λ gaps. Ok (Pause gaps))
    (λ gaps e. fit-ok AreGaps (gaps_of words) gaps e (some-gaps-fit words))

pause-fits : (fields : List Word) → Fit StepFits (forms.pause_of fields)
pause-fits [] = gaps-fit []
pause-fits (word ∷ []) =
    then-fits (ticks_of word) (λ n. cond (n == 0) (Ok (Pause [])) (gaps_of (word ∷ []) >>= λ gaps. Ok (Pause gaps)))
    (λ n. fit-cond StepFits (n == 0) (Ok (Pause [])) (gaps_of (word ∷ []) >>= λ gaps. Ok (Pause gaps))
    (All-nil (λ n. 0 < n)) (gaps-fit (word ∷ [])))
pause-fits (a ∷ b ∷ more) = gaps-fit (a ∷ b ∷ more)

step-fits : (word : List ℕ) (fields : List Word) → Fit StepFits (step_of word fields)
unfolding step_of
step-fits word fields =
    fit-cond StepFits (bytes_eq word (codes "clock")) _ _ (clock-fits fields)
    (fit-cond StepFits (bytes_eq word (codes "say")) _ _ (say-fits fields)
    (fit-cond StepFits (bytes_eq word (codes "touch")) _ _ (touch-fits fields)
    (fit-cond StepFits (bytes_eq word (codes "changed")) _ _ (changed-fits fields)
    (fit-cond StepFits (bytes_eq word (codes "rez")) _ _ (rez-fits fields)
    (fit-cond StepFits (bytes_eq word (codes "go")) _ _ (go-fits fields)
    (fit-cond StepFits (bytes_eq word (codes "run")) _ _ (run-fits fields)
    (fit-cond StepFits (bytes_eq word (codes "pause")) _ _ (pause-fits fields)
    (fit-cond StepFits (bytes_eq word (codes "cross")) _ _ (cross-fits fields) tt))))))))

object-fits : (fields : List Word) → Fit LineFits (forms.object_of fields)
object-fits [] = tt
object-fits (a ∷ []) = tt
object-fits (a ∷ b ∷ []) = tt
object-fits (a ∷ b ∷ c ∷ []) = tt
object-fits (id ∷ label ∷ owner ∷ region ∷ []) =
    fit-then LineFits (key_of id) _ (λ k e. then-line (name_of label) _ (λ n. then-line (key_of owner) _
    (λ o. then-line (name_of region) _ (λ r. fit-ok IsKey (key_of id) k e (key-fits id)))))
object-fits (a ∷ b ∷ c ∷ d ∷ e ∷ more) = tt

prim-fits : (fields : List Word) → Fit LineFits (forms.prim_of fields)
prim-fits [] = tt
prim-fits (a ∷ []) = tt
prim-fits (id ∷ label ∷ []) =
    fit-then LineFits (key_of id) _ (λ k e. then-line (name_of label) _
    (λ n. fit-ok IsKey (key_of id) k e (key-fits id)))
prim-fits (a ∷ b ∷ c ∷ more) = tt

script-fits : (fields : List Word) → Fit LineFits (forms.script_of fields)
script-fits [] = tt
script-fits (a ∷ []) = tt
script-fits (label ∷ file ∷ []) = then-line (name_of label) _ (λ n. then-line (name_of file) _ (λ f. tt))
script-fits (a ∷ b ∷ c ∷ more) = tt

note-fits : (fields : List Word) → Fit LineFits (forms.note_of fields)
note-fits [] = tt
note-fits (a ∷ []) = tt
note-fits (label ∷ file ∷ []) = then-line (name_of label) _ (λ n. then-line (name_of file) _ (λ f. tt))
note-fits (a ∷ b ∷ c ∷ more) = tt

alone-fits : (fields : List Word) (form : Line) → LineFits form → Fit LineFits (forms.alone_of fields form)
alone-fits [] form h = h
alone-fits (a ∷ more) form h = tt

row-fits : (word : List ℕ) (fields : List Word) → Fit LineFits (row_of word fields)
unfolding row_of
row-fits word fields =
    fit-cond LineFits (bytes_eq word (codes "object")) _ _ (object-fits fields)
    (fit-cond LineFits (bytes_eq word (codes "prim")) _ _ (prim-fits fields)
    (fit-cond LineFits (bytes_eq word (codes "script")) _ _ (script-fits fields)
    (fit-cond LineFits (bytes_eq word (codes "note")) _ _ (note-fits fields)
    (fit-cond LineFits (bytes_eq word (codes "begin")) _ _ (alone-fits fields Begin tt)
    (fit-cond LineFits (bytes_eq word (codes "end")) _ _ (alone-fits fields End tt)
    (fit-then LineFits (step_of word fields) (λ step. Ok (Step step))
    (λ step e. fit-ok StepFits (step_of word fields) step e (step-fits word fields))))))))

words-fit : (words : List Word) → Fit LineFits (form_of_words words)
words-fit [] = tt
words-fit (word ∷ fields) =
    then-line (plain_of word) _ (λ bytes. then-line (utf8_of bytes) _ (λ first. row-fits first fields))

-- what a line says fits
pub form-fits : (line : List ℕ) → Fit LineFits (form_of line)
unfolding form_of
form-fits line = then-line (utf8_of line) (λ bytes. words_of bytes >>= form_of_words)
    (λ bytes. then-line (words_of bytes) form_of_words words-fit)
