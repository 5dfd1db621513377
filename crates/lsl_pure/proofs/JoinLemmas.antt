-- Joined texts, and their bytes.
use Rattle.std.proofs.Common.{◌≡◌, ◌∙◌, ℕ, ◌+◌, ◌<◌, ◌≤◌, true, cond, ℤ, pos, negsuc, List, [], ◌∷◌, ◌++◌, length, map, drop, get_or, Result, Ok, Err, OnOk, IfOk, sym, ap, refl, arith}
use Rattle.std.specs.Fmt.{signed_decimal}
use Rattle.std.specs.Prelude.{codes}
use Rattle.std.specs.Result.{is_ok}
use Rattle.std.specs.Str.{encode_utf8_all, IsAscii}
use Rattle.std.proofs.lemmas.List.{append_assoc, drop_more}
use Rattle.std.proofs.lemmas.Str.{encode_ascii, encodes-IsAscii, encodes-append, encodes_same}
use Rattle.lsl_text.specs.Number.{decimal_of}
use Rattle.lsl_value.specs.declared.list.Atom.{Atom}
use Rattle.lsl_value.specs.declared.list.Atom.TheVariants.{Int}
use Rattle.lsl_pure.specs.Joins.{dumped, joined, each_behind}
use Rattle.lsl_value.specs.Atoms.{text_of_atom}
use Rattle.lsl_pure.specs.Spelling.{spelled_atom}

decimal_is : (n : ℤ) → signed_decimal n ≡ decimal_of n
decimal_is (pos n) = refl
decimal_is (negsuc n) = refl

-- an integer's text is its own UTF-8
pub spelled_integer : (a : Atom) (n : ℤ) (digits : List ℕ) → a ≡ Int n → digits ≡ signed_decimal n
    → IsAscii digits → digits ≡ spelled_atom a
spelled_integer a n digits is same ascii =
    sym (encodes-IsAscii digits ascii) ∙ ap encode_utf8_all (same ∙ decimal_is n) ∙ sym (ap spelled_atom is)

pub OnOk-given : {T E : Type 0} (r : Result T E) (P : Type 0) → (is_ok r ≡ true → P) → OnOk r P
OnOk-given (Ok x) P holds = holds refl
OnOk-given (Err e) P holds = tt

pub OnOk-appended : {T E : Type 0} (r : Result T E) (new old more other : List ℕ)
    → new ≡ cond (is_ok r) (old ++ more) old → more ≡ other → OnOk r (new ≡ old ++ other)
OnOk-appended (Ok x) new old more other same is = same ∙ ap (λ m. old ++ m) is
OnOk-appended (Err e) new old more other same is = tt

-- one more text behind the separator
pub each_behind-more : (out separator : List ℕ) (atoms : List Atom) (i : ℕ) (a : Atom) → i < length atoms
    → a ≡ get_or atoms i a
    → ((out ++ separator) ++ spelled_atom a) ++ each_behind separator (map spelled_atom (drop (i + 1) atoms))
    ≡ out ++ each_behind separator (map spelled_atom (drop i atoms))
each_behind-more out separator atoms i a low is =
    let next : drop i atoms ≡ a ∷ drop (i + 1) atoms =
    drop_more atoms i a low ∙ ap (λ b. b ∷ drop (i + 1) atoms) (sym is) in
    append_assoc (out ++ separator) (spelled_atom a) (each_behind separator (map spelled_atom (drop (i + 1) atoms)))
    ∙ append_assoc out separator (spelled_atom a ++ each_behind separator (map spelled_atom (drop (i + 1) atoms)))
    ∙ ap (λ t. out ++ t) (sym (append_assoc separator (spelled_atom a)
    (each_behind separator (map spelled_atom (drop (i + 1) atoms)))))
    ∙ sym (ap (λ bs. out ++ each_behind separator (map spelled_atom bs)) next)

-- the first text and the others behind it
pub joined-parts : (out start middle separator : List ℕ) (atoms others : List Atom) (first : Atom)
    → 1 ≤ length atoms → first ≡ get_or atoms 0 first → others ≡ drop 1 atoms
    → start ≡ [] → middle ≡ start ++ spelled_atom first
    → out ≡ middle ++ each_behind separator (map spelled_atom others)
    → out ≡ joined separator (map spelled_atom atoms)
joined-parts out start middle separator [] others first some is rest none one all = absurd (omega arith)
joined-parts out start middle separator (a ∷ atoms) others first some is rest none one all =
    all ∙ ap (λ m. m ++ each_behind separator (map spelled_atom others))
    (one ∙ ap (λ s. s ++ spelled_atom first) none ∙ ap spelled_atom is)
    ∙ ap (λ os. spelled_atom a ++ each_behind separator (map spelled_atom os)) rest

-- the same in characters

each_behind-encodes : (separator : List ℕ) (atoms : List Atom)
    → each_behind (encode_utf8_all separator) (map spelled_atom atoms)
    ≡ encode_utf8_all (each_behind separator (map text_of_atom atoms))
each_behind-encodes separator [] = refl
each_behind-encodes separator (a ∷ atoms) =
    ap (λ t. (encode_utf8_all separator ++ spelled_atom a) ++ t) (each_behind-encodes separator atoms)
    ∙ ap (λ t. t ++ encode_utf8_all (each_behind separator (map text_of_atom atoms)))
    (sym (encodes-append separator (text_of_atom a)))
    ∙ sym (encodes-append (separator ++ text_of_atom a) (each_behind separator (map text_of_atom atoms)))

joined-encodes : (separator : List ℕ) (atoms : List Atom)
    → joined (encode_utf8_all separator) (map spelled_atom atoms)
    ≡ encode_utf8_all (joined separator (map text_of_atom atoms))
joined-encodes separator [] = refl
joined-encodes separator (a ∷ atoms) =
    ap (λ t. spelled_atom a ++ t) (each_behind-encodes separator atoms)
    ∙ sym (encodes-append (text_of_atom a) (each_behind separator (map text_of_atom atoms)))

pub dumped-spelled : (separator bytes : List ℕ) (atoms slice : List Atom) → slice ≡ atoms
    → bytes ≡ encode_utf8_all separator → joined bytes (map spelled_atom slice)
    ≡ encode_utf8_all (dumped atoms separator)
dumped-spelled separator bytes atoms slice same spelled =
    ap (λ s. joined bytes (map spelled_atom s)) same ∙ ap (λ b. joined b (map spelled_atom atoms)) spelled
    ∙ joined-encodes separator atoms

pub IfOk-spelled : {E : Type 0} (r : Result (List ℕ) E) (bytes cs : List ℕ) → bytes ≡ encode_utf8_all cs
    → IfOk r (λ t. encode_utf8_all t ≡ bytes) → IfOk r (λ t. t ≡ cs)
IfOk-spelled (Ok t) bytes cs same is = encodes_same t cs (is ∙ same)
IfOk-spelled (Err e) bytes cs same is = tt

pub comma_space : 44 ∷ 32 ∷ [] ≡ encode_utf8_all (codes ", ")
comma_space = sym (ap (λ b. b ++ encode_utf8_all (32 ∷ [])) (encode_ascii 44 (omega arith))
    ∙ ap (λ b. 44 ∷ (b ++ [])) (encode_ascii 32 (omega arith)))
