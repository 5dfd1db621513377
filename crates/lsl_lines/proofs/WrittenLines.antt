-- Each line that was written is read back.
use Rattle.std.proofs.Common.{◌≡◌, ℕ, ◌<◌, ◌≤◌, ◌^◌, ◌==◌, nat_le, nat_lt, true, cond, ◌&&◌, List, [], ◌∷◌, ◌++◌, length, map, codes, ℤ, Result, Ok, Err, refl, ap, ◌∙◌, arith, lit<, lit≤}
use Rattle.std.proofs.lemmas.Bool.{and_from, cond-false, cond-true, le-leb, lt-ltb, ltb-true, ne_eqb}
use Rattle.std.proofs.lemmas.List.{length-map}
use Rattle.std.proofs.lemmas.Str.{is_utf8-from_IsUtf8}
use Rattle.std.specs.List.{AllByRecursion, list_all}
use Rattle.std.specs.Str.{is_utf8}
use Rattle.lsl_value.specs.Text.{IsText}
use Rattle.lsl_lines.specs.Checks.{◌>>=◌, fault_unless}
use Rattle.lsl_lines.specs.Fields.{integer_of, key_of, name_of, natural_of, quoted_of}
use Rattle.lsl_lines.specs.Forms.{clock_of, say_of, touch_of, changed_of, rez_of, go_of, run_of, pause_of, cross_of, object_of, prim_of, note_of, script_of, each_gap, form_of, form_of_words, gap_of, gaps_of, number_of, row_of, step_of, ticks_of}
use Rattle.lsl_lines.specs.Lines.{lines_of}
use Rattle.lsl_lines.specs.Reading.{line_added, read_line}
use Rattle.lsl_lines.specs.Words.{Plain, Quoted, Word, is_skipped, words_of}
use Rattle.lsl_lines.specs.Writable.{IsGap, IsInteger, IsLowerKey, IsName}
use Rattle.lsl_lines.specs.Written.{gap_words, integer, line_text, line_words, number, step_words}
use Rattle.lsl_lines.specs.declared.faults.FileKind.{FileKind}
use Rattle.lsl_lines.specs.declared.faults.FileKind.TheVariants.{BadLine}
use Rattle.lsl_lines.specs.declared.file.Step.{Step as TheStep}
use Rattle.lsl_lines.specs.declared.file.Step.TheVariants.{Clock, Say, Touch, Changed, Rez, Go, Run, Pause, Cross}
use Rattle.lsl_lines.specs.declared.forms.Line.{Line}
use Rattle.lsl_lines.specs.declared.forms.Line.TheVariants.{Object, Prim, Script, Note, Begin, Step, End}
use Rattle.lsl_lines.specs.declared.reading.Reading.{Reading}
use Rattle.lsl_lines.proofs.WrittenFields.{integer_back, integer_plain, key_back, key_plain, name_back, number_back, number_plain}
use Rattle.lsl_lines.proofs.WrittenWords.{BeginsPlain, IsLineOf, IsPlain, IsWritten, is_word_byte, line_of-words, plain_utf8}

-- the numbers, keys and texts of a step can be written
abbrev pub StepFits : TheStep → Type 0
StepFits (Clock ms) = ms ≤ 2147483647999
StepFits (Say channel name key text) = IsInteger channel × IsName name × IsLowerKey key × IsText text
StepFits (Touch object link key name) =
    (object ≤ 4294967295) × (link ≤ 4294967295) × IsLowerKey key × IsName name
StepFits (Changed object flags) = (object ≤ 4294967295) × IsInteger flags
StepFits (Rez object n) = (object ≤ 4294967295) × IsInteger n
StepFits (Go script ticks) = (script ≤ 4294967295) × (ticks ≤ 1000000)
StepFits (Run ticks) = ticks ≤ 1000000
StepFits (Pause gaps) = (length gaps ≤ 16) × AllByRecursion IsGap gaps
StepFits (Cross object region) = (object ≤ 4294967295) × IsName region

abbrev pub LineFits : Line → Type 0
LineFits (Object key name owner region) = IsLowerKey key × IsName name × IsLowerKey owner × IsName region
LineFits (Prim key name) = IsLowerKey key × IsName name
LineFits (Script name file) = IsName name × IsName file
LineFits (Note name file) = IsName name × IsName file
LineFits Begin = Unit {0}
LineFits (Step step) = StepFits step
LineFits End = Unit {0}

-- ---- the words

plain : (bytes : List ℕ) → nat_lt 0 (length bytes) ≡ true → list_all is_word_byte bytes ≡ true → IsPlain bytes
plain bytes some h = (ltb-true 0 (length bytes) some, h)

small : (n most : ℕ) → n ≤ most → most < 2 ^ 64 → n < 2 ^ 64
small n most le lt = omega (arith, le, lt)

number_word : (n most : ℕ) → n ≤ most → most < 2 ^ 64 → IsWritten (number n)
number_word n most le lt = number_plain n (small n most le lt)

object_word : (n : ℕ) → n ≤ 4294967295 → IsWritten (number n)
object_word n le = number_word n 4294967295 le (lit< tt)

ticks_word : (n : ℕ) → n ≤ 1000000 → IsWritten (number n)
ticks_word n le = number_word n 1000000 le (lit< tt)

gaps_words : (gaps : List ℕ) → AllByRecursion IsGap gaps → AllByRecursion IsWritten (map number gaps)
gaps_words [] h = tt
gaps_words (gap ∷ gaps) (one, more) = (ticks_word gap one.1, gaps_words gaps more)

gap_words_fit : (gaps : List ℕ) → AllByRecursion IsGap gaps → AllByRecursion IsWritten (gap_words gaps)
gap_words_fit [] h = (ticks_word 0 (lit≤ tt), tt)
gap_words_fit (gap ∷ gaps) h = gaps_words (gap ∷ gaps) h

step_words_fit : (step : TheStep) → StepFits step → AllByRecursion IsWritten (step_words step)
step_words_fit (Clock ms) h = (plain (codes "clock") refl refl, (number_word ms 2147483647999 h (lit< tt), tt))
step_words_fit (Say channel name key text) (c, n, k, t) =
    (plain (codes "say") refl refl, (integer_plain channel c, (n.text, (key_plain key k, (t, tt)))))
step_words_fit (Touch object link key name) (o, l, k, n) =
    (plain (codes "touch") refl refl, (object_word object o, (object_word link l, (key_plain key k, (n.text, tt)))))
step_words_fit (Changed object flags) (o, f) =
    (plain (codes "changed") refl refl, (object_word object o, (integer_plain flags f, tt)))
step_words_fit (Rez object n) (o, f) =
    (plain (codes "rez") refl refl, (object_word object o, (integer_plain n f, tt)))
step_words_fit (Go script ticks) (s, t) =
    (plain (codes "go") refl refl, (object_word script s, (ticks_word ticks t, tt)))
step_words_fit (Run ticks) t = (plain (codes "run") refl refl, (ticks_word ticks t, tt))
step_words_fit (Pause gaps) (few, g) = (plain (codes "pause") refl refl, gap_words_fit gaps g)
step_words_fit (Cross object region) (o, r) =
    (plain (codes "cross") refl refl, (object_word object o, (r.text, tt)))

line_words_fit : (line : Line) → LineFits line → AllByRecursion IsWritten (line_words line)
line_words_fit (Object key name owner region) (k, n, o, r) =
    (plain (codes "object") refl refl, (key_plain key k, (n.text, (key_plain owner o, (r.text, tt)))))
line_words_fit (Prim key name) (k, n) = (plain (codes "prim") refl refl, (key_plain key k, (n.text, tt)))
line_words_fit (Script name file) (n, f) = (plain (codes "script") refl refl, (n.text, (f.text, tt)))
line_words_fit (Note name file) (n, f) = (plain (codes "note") refl refl, (n.text, (f.text, tt)))
line_words_fit Begin h = (plain (codes "begin") refl refl, tt)
line_words_fit (Step step) h = step_words_fit step h
line_words_fit End h = (plain (codes "end") refl refl, tt)

step_begins : (step : TheStep) → BeginsPlain (step_words step)
step_begins (Clock ms) = tt
step_begins (Say channel name key text) = tt
step_begins (Touch object link key name) = tt
step_begins (Changed object flags) = tt
step_begins (Rez object n) = tt
step_begins (Go script ticks) = tt
step_begins (Run ticks) = tt
step_begins (Pause gaps) = tt
step_begins (Cross object region) = tt

line_begins : (line : Line) → BeginsPlain (line_words line)
line_begins (Object key name owner region) = tt
line_begins (Prim key name) = tt
line_begins (Script name file) = tt
line_begins (Note name file) = tt
line_begins Begin = tt
line_begins (Step step) = step_begins step
line_begins End = tt

-- ---- the fields

-- one field is given, and then the others
given : {A B : Type 0} (m : Result A FileKind) (x : A) (f : A → Result B FileKind) (r : Result B FileKind)
    → m ≡ Ok x → f x ≡ r → (m >>= f) ≡ r
given m x f r e h = ap (λ k. k >>= f) e ∙ h

object_back : (n : ℕ) → n ≤ 4294967295 → number_of (number n) ≡ Ok n
object_back n le = number_back 4294967295 n le (small n 4294967295 le (lit< tt))

ticks_back : (n : ℕ) → n ≤ 1000000 → ticks_of (number n) ≡ Ok n
ticks_back n le = number_back 1000000 n le (small n 1000000 le (lit< tt))

gap_back : (gap : ℕ) → IsGap gap → gap_of (number gap) ≡ Ok gap
gap_back gap (some, le) =
    given (ticks_of (number gap)) gap (λ n. fault_unless (nat_lt 0 n) BadLine (Ok n)) (Ok gap) (ticks_back gap le)
    (cond-true (nat_lt 0 gap) _ _ (lt-ltb 0 gap some))

each_back : (gaps : List ℕ) → AllByRecursion IsGap gaps → each_gap (map number gaps) ≡ Ok gaps
each_back [] h = refl
each_back (gap ∷ gaps) (one, more) =
    given (gap_of (number gap)) gap (λ g. each_gap (map number gaps) >>= λ gs. Ok (g ∷ gs)) (Ok (gap ∷ gaps))
    (gap_back gap one)
    (given (each_gap (map number gaps)) gaps (λ gs. Ok (gap ∷ gs)) (Ok (gap ∷ gaps)) (each_back gaps more) refl)

gaps_back : (gaps : List ℕ) → 0 < length gaps → length gaps ≤ 16 → AllByRecursion IsGap gaps
    → (gaps_of (map number gaps) >>= λ gs. Ok (Pause gs)) ≡ Ok (Pause gaps)
gaps_back gaps some few h =
    let words = map number gaps in
    let long : length words ≡ length gaps = length-map gaps number in
    given (gaps_of words) gaps (λ gs. Ok (Pause gs)) (Ok (Pause gaps))
    (cond-true (nat_lt 0 (length words) && nat_le (length words) 16) (each_gap words) _
    (and_from _ _ (lt-ltb 0 (length words) (omega (arith, long))) (le-leb (length words) 16 (omega (arith, long))))
    ∙ each_back gaps h) refl

pause_back : (gaps : List ℕ) → length gaps ≤ 16 → AllByRecursion IsGap gaps
    → pause_of (gap_words gaps) ≡ Ok (Pause gaps)
pause_back [] few h =
    given (ticks_of (number 0)) 0
    (λ n. cond (n == 0) (Ok (Pause [])) (gaps_of (number 0 ∷ []) >>= λ gaps. Ok (Pause gaps)))
    (Ok (Pause [])) (ticks_back 0 (lit≤ tt)) refl
pause_back (gap ∷ []) few h =
    given (ticks_of (number gap)) gap
    (λ n. cond (n == 0) (Ok (Pause [])) (gaps_of (number gap ∷ []) >>= λ gaps. Ok (Pause gaps)))
    (Ok (Pause (gap ∷ []))) (ticks_back gap h.0.1)
    (cond-false (gap == 0) _ _ (ne_eqb gap 0 (λ e. omega (arith, e, h.0.0)))
    ∙ gaps_back (gap ∷ []) (lit< tt) few h)
pause_back (gap ∷ next ∷ gaps) few h = gaps_back (gap ∷ next ∷ gaps) (omega arith) few h

-- ---- the forms

clock_back : (ms : ℕ) → ms ≤ 2147483647999 → clock_of (number ms ∷ []) ≡ Ok (Clock ms)
clock_back ms h =
    given (natural_of 2147483647999 (number ms)) ms (λ ms. Ok (Clock ms)) (Ok (Clock ms))
    (number_back 2147483647999 ms h (small ms 2147483647999 h (lit< tt))) refl

say_back : (channel : ℤ) (name key text : List ℕ) → IsInteger channel → IsName name → IsLowerKey key
    → say_of (integer channel ∷ Quoted name ∷ Plain key ∷ Quoted text ∷ []) ≡ Ok (Say channel name key text)
say_back channel name key text c n k =
    given (integer_of (integer channel)) channel (λ c. name_of (Quoted name) >>= λ n. key_of (Plain key) >>= λ k.
    quoted_of (Quoted text) >>= λ t. Ok (Say c n k t)) (Ok (Say channel name key text)) (integer_back channel c)
    (given (name_of (Quoted name)) name (λ n. key_of (Plain key) >>= λ k.
    quoted_of (Quoted text) >>= λ t. Ok (Say channel n k t)) (Ok (Say channel name key text)) (name_back name n)
    (given (key_of (Plain key)) key (λ k. quoted_of (Quoted text) >>= λ t. Ok (Say channel name k t))
    (Ok (Say channel name key text)) (key_back key k) refl))

touch_back : (object link : ℕ) (key name : List ℕ) → object ≤ 4294967295 → link ≤ 4294967295 → IsLowerKey key
    → IsName name → touch_of (number object ∷ number link ∷ Plain key ∷ Quoted name ∷ [])
    ≡ Ok (Touch object link key name)
touch_back object link key name o l k n =
    given (number_of (number object)) object (λ o. number_of (number link) >>= λ l. key_of (Plain key) >>= λ k.
    name_of (Quoted name) >>= λ n. Ok (Touch o l k n)) (Ok (Touch object link key name)) (object_back object o)
    (given (number_of (number link)) link (λ l. key_of (Plain key) >>= λ k.
    name_of (Quoted name) >>= λ n. Ok (Touch object l k n)) (Ok (Touch object link key name)) (object_back link l)
    (given (key_of (Plain key)) key (λ k. name_of (Quoted name) >>= λ n. Ok (Touch object link k n))
    (Ok (Touch object link key name)) (key_back key k)
    (given (name_of (Quoted name)) name (λ n. Ok (Touch object link key n)) (Ok (Touch object link key name))
    (name_back name n) refl)))

changed_back : (object : ℕ) (flags : ℤ) → object ≤ 4294967295 → IsInteger flags
    → changed_of (number object ∷ integer flags ∷ []) ≡ Ok (Changed object flags)
changed_back object flags o f =
    given (number_of (number object)) object (λ o. integer_of (integer flags) >>= λ f. Ok (Changed o f))
    (Ok (Changed object flags)) (object_back object o)
    (given (integer_of (integer flags)) flags (λ f. Ok (Changed object f)) (Ok (Changed object flags))
    (integer_back flags f) refl)

rez_back : (object : ℕ) (n : ℤ) → object ≤ 4294967295 → IsInteger n
    → rez_of (number object ∷ integer n ∷ []) ≡ Ok (Rez object n)
rez_back object n o f =
    given (number_of (number object)) object (λ o. integer_of (integer n) >>= λ m. Ok (Rez o m)) (Ok (Rez object n))
    (object_back object o)
    (given (integer_of (integer n)) n (λ m. Ok (Rez object m)) (Ok (Rez object n)) (integer_back n f) refl)

go_back : (script ticks : ℕ) → script ≤ 4294967295 → ticks ≤ 1000000
    → go_of (number script ∷ number ticks ∷ []) ≡ Ok (Go script ticks)
go_back script ticks s t =
    given (number_of (number script)) script (λ s. ticks_of (number ticks) >>= λ t. Ok (Go s t))
    (Ok (Go script ticks)) (object_back script s)
    (given (ticks_of (number ticks)) ticks (λ t. Ok (Go script t)) (Ok (Go script ticks)) (ticks_back ticks t) refl)

run_back : (ticks : ℕ) → ticks ≤ 1000000 → run_of (number ticks ∷ []) ≡ Ok (Run ticks)
run_back ticks t =
    given (ticks_of (number ticks)) ticks (λ t. Ok (Run t)) (Ok (Run ticks)) (ticks_back ticks t) refl

cross_back : (object : ℕ) (region : List ℕ) → object ≤ 4294967295 → IsName region
    → cross_of (number object ∷ Quoted region ∷ []) ≡ Ok (Cross object region)
cross_back object region o r =
    given (number_of (number object)) object (λ o. name_of (Quoted region) >>= λ r. Ok (Cross o r))
    (Ok (Cross object region)) (object_back object o)
    (given (name_of (Quoted region)) region (λ r. Ok (Cross object r)) (Ok (Cross object region))
    (name_back region r) refl)

object_form : (key name owner region : List ℕ) → IsLowerKey key → IsName name → IsLowerKey owner → IsName region
    → object_of (Plain key ∷ Quoted name ∷ Plain owner ∷ Quoted region ∷ []) ≡ Ok (Object key name owner region)
object_form key name owner region k n o r =
    given (key_of (Plain key)) key (λ k. name_of (Quoted name) >>= λ n. key_of (Plain owner) >>= λ o.
    name_of (Quoted region) >>= λ r. Ok (Object k n o r)) (Ok (Object key name owner region)) (key_back key k)
    (given (name_of (Quoted name)) name (λ n. key_of (Plain owner) >>= λ o.
    name_of (Quoted region) >>= λ r. Ok (Object key n o r)) (Ok (Object key name owner region)) (name_back name n)
    (given (key_of (Plain owner)) owner (λ o. name_of (Quoted region) >>= λ r. Ok (Object key name o r))
    (Ok (Object key name owner region)) (key_back owner o)
    (given (name_of (Quoted region)) region (λ r. Ok (Object key name owner r)) (Ok (Object key name owner region))
    (name_back region r) refl)))

prim_form : (key name : List ℕ) → IsLowerKey key → IsName name
    → prim_of (Plain key ∷ Quoted name ∷ []) ≡ Ok (Prim key name)
prim_form key name k n =
    given (key_of (Plain key)) key (λ k. name_of (Quoted name) >>= λ n. Ok (Prim k n)) (Ok (Prim key name))
    (key_back key k)
    (given (name_of (Quoted name)) name (λ n. Ok (Prim key n)) (Ok (Prim key name)) (name_back name n) refl)

script_form : (name file : List ℕ) → IsName name → IsName file
    → script_of (Quoted name ∷ Quoted file ∷ []) ≡ Ok (Script name file)
script_form name file n f =
    given (name_of (Quoted name)) name (λ n. name_of (Quoted file) >>= λ f. Ok (Script n f)) (Ok (Script name file))
    (name_back name n)
    (given (name_of (Quoted file)) file (λ f. Ok (Script name f)) (Ok (Script name file)) (name_back file f) refl)

note_form : (name file : List ℕ) → IsName name → IsName file
    → note_of (Quoted name ∷ Quoted file ∷ []) ≡ Ok (Note name file)
note_form name file n f =
    given (name_of (Quoted name)) name (λ n. name_of (Quoted file) >>= λ f. Ok (Note n f)) (Ok (Note name file))
    (name_back name n)
    (given (name_of (Quoted file)) file (λ f. Ok (Note name f)) (Ok (Note name file)) (name_back file f) refl)

-- ---- the first word

headed : (first : List ℕ) (fields : List Word) (line : Result Line FileKind) → list_all is_word_byte first ≡ true
    → row_of first fields ≡ line → form_of_words (Plain first ∷ fields) ≡ line
headed first fields line h e =
    ap (λ (r : Result (List ℕ) FileKind). r >>= λ f. row_of f fields)
    (cond-true (is_utf8 first) (Ok first) (Err BadLine) (is_utf8-from_IsUtf8 first (plain_utf8 first h)))
    ∙ e

stepped : Result TheStep FileKind → Result Line FileKind
stepped r = r >>= λ step. Ok (Step step)

step_headed : (first : List ℕ) (fields : List Word) (step : TheStep) → list_all is_word_byte first ≡ true
    → row_of first fields ≡ stepped (step_of first fields) → step_of first fields ≡ Ok step
    → form_of_words (Plain first ∷ fields) ≡ Ok (Step step)
unfolding stepped
step_headed first fields step h row e =
    headed first fields (Ok (Step step)) h (row ∙ ap (λ (r : Result TheStep FileKind). stepped r) e)

step_form : (step : TheStep) → StepFits step → form_of_words (step_words step) ≡ Ok (Step step)
unfolding row_of step_of stepped
step_form (Clock ms) h = step_headed (codes "clock") (number ms ∷ []) (Clock ms) refl refl (clock_back ms h)
step_form (Say channel name key text) (c, n, k, t) =
    step_headed (codes "say") (integer channel ∷ Quoted name ∷ Plain key ∷ Quoted text ∷ [])
    (Say channel name key text) refl refl (say_back channel name key text c n k)
step_form (Touch object link key name) (o, l, k, n) =
    step_headed (codes "touch") (number object ∷ number link ∷ Plain key ∷ Quoted name ∷ [])
    (Touch object link key name) refl refl (touch_back object link key name o l k n)
step_form (Changed object flags) (o, f) =
    step_headed (codes "changed") (number object ∷ integer flags ∷ []) (Changed object flags) refl refl
    (changed_back object flags o f)
step_form (Rez object n) (o, f) =
    step_headed (codes "rez") (number object ∷ integer n ∷ []) (Rez object n) refl refl (rez_back object n o f)
step_form (Go script ticks) (s, t) =
    step_headed (codes "go") (number script ∷ number ticks ∷ []) (Go script ticks) refl refl
    (go_back script ticks s t)
step_form (Run ticks) t =
    step_headed (codes "run") (number ticks ∷ []) (Run ticks) refl refl (run_back ticks t)
step_form (Pause gaps) (few, g) =
    step_headed (codes "pause") (gap_words gaps) (Pause gaps) refl refl (pause_back gaps few g)
step_form (Cross object region) (o, r) =
    step_headed (codes "cross") (number object ∷ Quoted region ∷ []) (Cross object region) refl refl
    (cross_back object region o r)

line_form : (line : Line) → LineFits line → form_of_words (line_words line) ≡ Ok line
unfolding row_of
line_form (Object key name owner region) (k, n, o, r) =
    headed (codes "object") (Plain key ∷ Quoted name ∷ Plain owner ∷ Quoted region ∷ [])
    (Ok (Object key name owner region)) refl (object_form key name owner region k n o r)
line_form (Prim key name) (k, n) =
    headed (codes "prim") (Plain key ∷ Quoted name ∷ []) (Ok (Prim key name)) refl (prim_form key name k n)
line_form (Script name file) (n, f) =
    headed (codes "script") (Quoted name ∷ Quoted file ∷ []) (Ok (Script name file)) refl (script_form name file n f)
line_form (Note name file) (n, f) =
    headed (codes "note") (Quoted name ∷ Quoted file ∷ []) (Ok (Note name file)) refl (note_form name file n f)
line_form Begin h = headed (codes "begin") [] (Ok Begin) refl refl
line_form (Step step) h = step_form step h
line_form End h = headed (codes "end") [] (Ok End) refl refl

-- ---- a whole line

line_stands : (line : Line) → LineFits line → IsLineOf (line_words line) (line_text line)
line_stands line h = line_of-words (line_words line) (line_begins line) (line_words_fit line h)

-- a line that was written adds what it says
pub line_read : (line : Line) (r : Reading) → LineFits line → read_line (line_text line) r ≡ line_added line r
unfolding read_line form_of
line_read line r h =
    let text = line_text line in
    let s = line_stands line h in
    let form : form_of text ≡ Ok line =
    ap (λ (u : Result (List ℕ) FileKind). u >>= λ bytes. words_of bytes >>= form_of_words)
    (cond-true (is_utf8 text) (Ok text) (Err BadLine) (is_utf8-from_IsUtf8 text s.utf8))
    ∙ ap (λ (ws : Result (List Word) FileKind). ws >>= form_of_words) s.words
    ∙ line_form line h in
    cond-false (is_skipped text) (Ok r) (form_of text >>= λ form. line_added form r) s.told
    ∙ ap (λ (f : Result Line FileKind). f >>= λ form. line_added form r) form

-- and is cut from the rest
pub line_cut_off : (line : Line) (rest : List ℕ) → LineFits line
    → lines_of (line_text line ++ 10 ∷ rest) ≡ line_text line ∷ lines_of rest
line_cut_off line rest h = (line_stands line h).cut rest
