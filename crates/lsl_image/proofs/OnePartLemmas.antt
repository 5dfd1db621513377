-- Scripts, stores and objects are spelled by their bytes alone.
use Rattle.std.proofs.Common.{◌≡◌, ◌∙◌, refl, sym, ap, arith, ℕ, ◌+◌, ◌==◌, ◌&&◌, nat_lt, nat_le, cond, List, [], ◌∷◌, ◌++◌, length, append_assoc, Bool, true, false, Option, Some, None, is_some, slice_get}
use Rattle.std.proofs.lemmas.Bool.{false≢true}
use Rattle.std.proofs.lemmas.Bool.Decides.{nat_tests}
use Rattle.std.proofs.lemmas.Slice.Eq.{bytes_eq-Decides}
use Rattle.std.specs.List.{flat_map}
use Rattle.std.specs.Str.{bytes_eq}
use Rattle.lsl_running.specs.Charging.{default_limit}
use Rattle.lsl_code.specs.declared.woven_units.Woven.{Woven as Code}
use Rattle.lsl_code.specs.Kinds.{kinds_of}
use Rattle.lsl_post.specs.declared.parts.Pair.{Pair}
use Rattle.lsl_post.specs.declared.parts.ScriptParts.{ScriptParts}
use Rattle.lsl_post.specs.Fitting.{least_limit}
use Rattle.lsl_bytes.specs.Fields.{text_bytes, u8_bytes, u16_bytes, u32_bytes, u64_bytes}
use Rattle.lsl_image.specs.declared.parts.ObjectParts.{ObjectParts}
use Rattle.lsl_image.specs.declared.parts.Shape.{Shape}
use Rattle.lsl_image.specs.Bytes.{body_bytes, both_bytes, digest_of, leaving_bytes, library_script_bytes, limit_bytes, listens_bytes, names_bytes, queue_bytes, rest_bytes, script_bytes, scripts_bytes, store_bytes, timer_bytes, uuid_bytes, values_bytes, waiting_bytes}
use Rattle.lsl_image.specs.Layout.{Bytes, Ends, TextForm, U16, U32, U64, U8, ◌>>=◌, field, field_that, grown}
use Rattle.lsl_image.specs.Object.{are_these, body, finds_room, is_above, key_bytes, pair, pair_behind, script_of, store}
use Rattle.lsl_image.specs.Rest.{code_digest, script}
use Rattle.lsl_image.specs.Script.{limit}
use Rattle.lsl_image.proofs.OneCallLemmas.{rest-only}
use Rattle.lsl_image.proofs.OneEventLemmas.{leaving-only, listens-only, queue-only, timer-only, values-only}
use Rattle.lsl_image.proofs.OneLemmas.{allowed, behind-here, both-parts, each-bytes, ended, field-bytes, grown-bytes, last-part, parted, passed, that-bytes}
use Rattle.lsl_image.proofs.SpeltLemmas.{Spelt}

code-only : (unit : Code) (p : ℕ) (digest part : List ℕ) → Spelt (code_digest unit) p digest part → part ≡ unit.digest
unfolding code_digest
code-only unit p digest part s =
    let t = parted s in
    let same = allowed (bytes_eq t.value unit.digest) _ _ t.others in
    let end = ended same.1 in
    last-part t (field-bytes (Bytes 32) t.first ∙ (bytes_eq-Decides t.value unit.digest).0 same.0) end.none

limit-only : (version p most : ℕ) (part : List ℕ) → Spelt (limit version) p most part → part ≡ limit_bytes version most
unfolding limit
limit-only version p most part s = by (version == 1) s
  where
    by : (first : Bool) → Spelt (cond first (Ends default_limit)
        (field_that U32 (λ n. nat_le least_limit n && nat_le n default_limit))) p most
        part
        → part ≡ cond first [] (u32_bytes most)
    by true r = (ended r).none
    by false r = (that-bytes U32 (λ n. nat_le least_limit n && nat_le n default_limit) r).bytes

-- what a script of a unit is spelled by
record IsScriptOf (version number : ℕ) (unit : Code) (s : ScriptParts) (part : List ℕ) : Type 0 where
  numbered : s.unit ≡ number
  bytes : part ≡ script_bytes version unit.digest s

script-only : (version number : ℕ) (unit : Code) (p : ℕ) (parts : ScriptParts) (part : List ℕ)
    → Spelt (script version number unit) p parts part → IsScriptOf version number unit parts part
unfolding script script_bytes waiting_bytes
script-only version number unit p parts part s =
    let digest = parted s in
    let state = parted digest.others in
    let left = parted state.others in
    let globals = parted left.others in
    let waiting = parted globals.others in
    let heard = parted waiting.others in
    let ticking = parted heard.others in
    let wake = parted ticking.others in
    let most = parted wake.others in
    let resting = parted most.others in
    let end = ended resting.others in
    let told = both-parts digest (code-only unit _ digest.value digest.front digest.first)
    (both-parts state (that-bytes U16 (λ n. nat_lt n (length unit.states)) state.first).bytes
    (both-parts left (leaving-only unit state.value _ left.value left.front left.first)
    (both-parts globals (values-only (kinds_of unit.globals) _ globals.value globals.front globals.first)
    (both-parts waiting (queue-only unit state.value _ waiting.value waiting.front waiting.first)
    (both-parts heard (listens-only _ heard.value heard.front heard.first)
    (both-parts ticking (timer-only _ ticking.value ticking.front ticking.first)
    (both-parts wake (field-bytes U64 wake.first)
    (both-parts most (limit-only version _ most.value most.front most.first)
    (last-part resting (rest-only unit state.value (is_some left.value) globals.value most.value _ resting.value
    resting.front resting.first) end.none))))))))) in
    record {
      numbered = ap (λ (x : ScriptParts). x.unit) end.same;
      bytes = told
          ∙ grouped unit.digest (u16_bytes state.value) (leaving_bytes left.value) (values_bytes globals.value)
          (queue_bytes waiting.value) (listens_bytes heard.value) (timer_bytes ticking.value) (u64_bytes wake.value)
          (limit_bytes version most.value) (rest_bytes resting.value)
          ∙ sym (ap (λ (x : ScriptParts). unit.digest ++ u16_bytes x.state ++ leaving_bytes x.leaving
          ++ values_bytes x.globals ++ (queue_bytes x.queue ++ listens_bytes x.listens ++ timer_bytes x.timer
          ++ u64_bytes x.wake ++ limit_bytes version x.limit ++ rest_bytes x.rest)) end.same);
    }
  where
    grouped : (a b c d e f g h i j : List ℕ)
        → a ++ (b ++ (c ++ (d ++ (e ++ (f ++ (g ++ (h ++ (i ++ j))))))))
        ≡ a ++ b ++ c ++ d ++ (e ++ f ++ g ++ h ++ i ++ j)
    grouped a b c d e f g h i j = simp append_assoc

-- a script of the library
of-only : (version : ℕ) (library : List Code) (number p : ℕ) (parts : ScriptParts) (part : List ℕ)
    → Spelt (script_of version number (slice_get library number)) p parts part
    → part ≡ library_script_bytes version library parts
of-only version library number p parts part s = by (slice_get library number) refl s
  where
    by : (found : Option Code) → slice_get library number ≡ found → Spelt (script_of version number found) p parts part
        → part ≡ script_bytes version (digest_of (slice_get library parts.unit)) parts
    by None known r = absurd (behind-here _ r).spells
    by (Some unit) known r =
        let t = script-only version number unit p parts part r in
        let named : slice_get library parts.unit ≡ Some unit = ap (slice_get library) t.numbered ∙ known in
        t.bytes ∙ sym (ap (λ (o : Option Code). script_bytes version (digest_of o) parts) named)

pair-only : (before : List Pair) (p : ℕ) (x : Pair) (part : List ℕ) → Spelt (pair_behind before) p x part
    → part ≡ both_bytes x
unfolding pair_behind both_bytes
pair-only before p x part s =
    let name = parted (behind-here _ s) in
    let named = parted name.others in
    let value = parted named.others in
    let tested = passed (nat_lt 0 (length name.value) && is_above name.value before) p named.first in
    let made = pair name.value value.value in
    let end = passed (nat_lt 0 (length value.value) && finds_room (before ++ made ∷ [])) p value.others in
    let behind : name.rest ≡ text_bytes value.value = both-parts named tested.none
    (last-part value (field-bytes TextForm value.first) end.none) in
    both-parts name (field-bytes TextForm name.first) behind
    ∙ sym (ap (λ (q : Pair). text_bytes q.name ++ text_bytes q.value) end.same)

store-only : (version p : ℕ) (pairs : List Pair) (part : List ℕ) → Spelt (store version) p pairs part
    → part ≡ store_bytes version pairs
unfolding store
store-only version p pairs part s = by (version == 1) s
  where
    by : (first : Bool) → Spelt (cond first (Ends []) (field U16 >>= λ count. grown count pair_behind [])) p pairs part
        → part ≡ cond first [] (u16_bytes (length pairs) ++ flat_map both_bytes pairs)
    by true r = (ended r).none
    by false r =
        let count = parted r in
        let g = grown-bytes pair_behind both_bytes (λ before q x rest t. pair-only before q x rest t) count.value []
        (p + length count.front) pairs count.rest count.others in
        both-parts count (field-bytes U16 count.first ∙ ap u16_bytes (sym g.long)) g.bytes
        ∙ ap (λ (ps : List Pair). u16_bytes (length ps) ++ flat_map both_bytes ps) (sym g.same)

these-are : (o : Option (List ℕ)) (found : List ℕ) → are_these o found ≡ true → found ≡ uuid_bytes o
these-are None found holds = absurd (false≢true holds)
these-are (Some bytes) found holds = (bytes_eq-Decides found bytes).0 holds

pub body-only : (version : ℕ) (shape : Shape) (library : List Code) (p : ℕ) (o : ObjectParts) (part : List ℕ)
    → Spelt (body version shape library) p o part → part ≡ body_bytes version library o
unfolding body body_bytes names_bytes scripts_bytes
body-only version shape library p o part s =
    let key = parted s in
    let prims = parted key.others in
    let names = parted prims.others in
    let count = parted names.others in
    let scripts = parted count.others in
    let pairs = parted scripts.others in
    let end = ended pairs.others in
    let is_key = that-bytes (Bytes 16) (are_these (key_bytes shape.key)) key.first in
    let is_prims = that-bytes U8 (λ n. n == shape.prims) prims.first in
    let is_count = that-bytes U16 (λ n. n == length shape.units) count.first in
    let several = grown-bytes (λ before. field TextForm) text_bytes (λ before q t rest r. field-bytes TextForm r)
    shape.prims [] _ names.value names.front names.first in
    let all = each-bytes (λ number. script_of version number (slice_get library number))
    (library_script_bytes version library) (λ number q x rest r. of-only version library number q x rest r) shape.units
    [] _
    scripts.value scripts.front scripts.first in
    let many : prims.value ≡ length names.value =
    grind (arith, nat_tests, is_prims.holds, ap length several.same, several.long) in
    let enough : count.value ≡ length scripts.value =
    grind (arith, nat_tests, is_count.holds, ap length all.same, all.long) in
    both-parts key (is_key.bytes ∙ these-are (key_bytes shape.key) key.value is_key.holds)
    (both-parts prims (is_prims.bytes ∙ ap u8_bytes many)
    (both-parts names (several.bytes ∙ ap (flat_map text_bytes) (sym several.same))
    (both-parts count (is_count.bytes ∙ ap u16_bytes enough)
    (both-parts scripts (all.bytes ∙ ap (flat_map (library_script_bytes version library)) (sym all.same))
    (last-part pairs (store-only version _ pairs.value pairs.front pairs.first) end.none)))))
    ∙ grouped (uuid_bytes (key_bytes shape.key)) (u8_bytes (length names.value)) (flat_map text_bytes names.value)
    (u16_bytes (length scripts.value)) (flat_map (library_script_bytes version library) scripts.value)
    (store_bytes version pairs.value)
    ∙ sym (ap (λ (x : ObjectParts). uuid_bytes (key_bytes x.key) ++ (u8_bytes (length x.names)
    ++ flat_map text_bytes x.names) ++ (u16_bytes (length x.scripts)
    ++ flat_map (library_script_bytes version library) x.scripts) ++ store_bytes version x.store) end.same)
  where
    grouped : (a b c d e f : List ℕ) → a ++ (b ++ (c ++ (d ++ (e ++ f)))) ≡ a ++ (b ++ c) ++ (d ++ e) ++ f
    grouped a b c d e f = simp append_assoc
