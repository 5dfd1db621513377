-- Saved calls and what a script rests in are spelled by their bytes alone.
use Rattle.std.proofs.Common.{◌≡◌, ◌∙◌, refl, sym, ap, arith, ℕ, zero, suc, ◌+◌, ◌≤◌, ◌&&◌, nat_lt, nat_le, List, [], ◌++◌, length, append_assoc, Bool, Option, Some, None}
use Rattle.std.proofs.lemmas.Bool.{and_parts}
use Rattle.std.proofs.lemmas.Bool.Decides.{nat_tests}
use Rattle.std.proofs.lemmas.List.{append-nil}
use Rattle.std.specs.List.{flat_map}
use Rattle.lsl_value.specs.declared.tagged.Value.{Value}
use Rattle.lsl_code.specs.declared.frames.Frame.{Frame}
use Rattle.lsl_code.specs.declared.functions.Point.{Point}
use Rattle.lsl_code.specs.declared.woven_units.Woven.{Woven as Code}
use Rattle.lsl_code.specs.Weaves.{bodies_of}
use Rattle.lsl_code.specs.Frames.{parked_charge, points_of}
use Rattle.lsl_code.specs.Units.{handler_of}
use Rattle.lsl_post.specs.declared.parts.Rest.{Rest}
use Rattle.lsl_bytes.specs.Fields.{u8_bytes, u16_bytes}
use Rattle.lsl_image.specs.Bytes.{calls_bytes, event_bytes, fault_number, frame_bytes, rest_bytes, values_bytes}
use Rattle.lsl_image.specs.Layout.{U16, U8}
use Rattle.lsl_image.specs.Rest.{callee_of, dead_rest, ends_in, fault_numbered, frame_at, frame_behind, frame_in, rest, rest_of, same_callee, saved_calls, saved_rest}
use Rattle.lsl_image.proofs.OneEventLemmas.{event-only, values-only}
use Rattle.lsl_image.proofs.OneLemmas.{allowed, behind-here, both-parts, ended, field-bytes, grown-bytes, last-part, parted, passed, that-bytes}
use Rattle.lsl_image.proofs.SpeltLemmas.{Spelt}

-- what follows the numbers of a frame
record IsFrameOf (function number : ℕ) (f : Frame) (part : List ℕ) : Type 0 where
  of_function : f.function ≡ function
  at_point : f.point ≡ number
  bytes : part ≡ values_bytes f.slots

at-only : (place function number : ℕ) (callee : Option ℕ) (found : Option Point) (p : ℕ) (f : Frame) (part : List ℕ)
    → Spelt (frame_at place function number callee found) p f part → IsFrameOf function number f part
at-only place function number callee None p f part s = absurd s.spells
at-only place function number callee (Some point) p f part s =
    let t = parted (allowed (same_callee point.calls callee) _ _ s).1 in
    let end = ended t.others in
    record {
      of_function = ap (λ (g : Frame). g.function) end.same;
      at_point = ap (λ (g : Frame). g.point) end.same;
      bytes = last-part t (values-only point.kinds p t.value t.front t.first) end.none
          ∙ sym (ap (λ (g : Frame). values_bytes g.slots) end.same);
    }

module _ (unit : Code) (handler : Option ℕ) where
  frame-only : (more : Bool) (callee : Option ℕ) (p : ℕ) (f : Frame) (part : List ℕ)
      → Spelt (frame_in unit handler more callee) p f part → part ≡ frame_bytes f
  unfolding frame_in frame_bytes
  frame-only more callee p f part s =
      let function = parted s in
      let q = p + length function.front in
      let number = parted (behind-here _ function.others) in
      let slots = at-only q function.value number.value callee
      (points_of (bodies_of unit) function.value number.value) (q + length number.front) f number.rest number.others in
      both-parts function
      ((that-bytes U16 (λ n. nat_lt n (length unit.functions) && ends_in handler more n) function.first).bytes
      ∙ ap u16_bytes (sym slots.of_function))
      (both-parts number (field-bytes U16 number.first ∙ ap u16_bytes (sym slots.at_point)) slots.bytes)
      ∙ sym (append_assoc (u16_bytes f.function) (u16_bytes f.point) (values_bytes f.slots))

  calls-only : (globals : List Value) (most p : ℕ) (frames : List Frame) (part : List ℕ)
      → Spelt (saved_calls unit globals most handler) p frames part → part ≡ calls_bytes frames
  unfolding saved_calls calls_bytes
  calls-only globals most p frames part s =
      let count = parted (behind-here _ s) in
      let list = parted count.others in
      let end = passed (nat_le (parked_charge globals list.value) most) p list.others in
      let g = grown-bytes (frame_behind unit handler count.value) frame_bytes
      (λ before q f rest r. frame-only (nat_lt (length before + 1) count.value) (callee_of before) q f rest r)
      count.value
      [] (p + length count.front) list.value list.front list.first in
      let many : count.value ≡ length list.value = sym (ap length g.same ∙ g.long) in
      both-parts count ((that-bytes U16 (λ n. nat_le 1 n) count.first).bytes ∙ ap u16_bytes many)
      (last-part list (g.bytes ∙ ap (flat_map frame_bytes) (sym g.same)) end.none)
      ∙ sym (ap (λ (fs : List Frame). u16_bytes (length fs) ++ flat_map frame_bytes fs) end.same)

fault-again : (n : ℕ) → 1 ≤ n → n ≤ 3 → n ≡ fault_number (fault_numbered n)
fault-again zero least most = absurd (omega arith)
fault-again (suc zero) least most = refl
fault-again (suc (suc zero)) least most = refl
fault-again (suc (suc (suc n))) least most = omega arith

module _ (unit : Code) (state : ℕ) (exits : Bool) (globals : List Value) (most : ℕ) where
  saved-only : (p : ℕ) (r : Rest) (part : List ℕ) → Spelt (saved_rest unit state exits globals most) p r part
      → u8_bytes 1 ++ part ≡ rest_bytes r
  unfolding saved_rest
  saved-only p r part s =
      let e = parted s in
      let frames = parted e.others in
      let end = ended frames.others in
      let q = p + length e.front in
      let handler = handler_of unit.states state e.value.id in
      let told = both-parts e (event-only unit state exits p e.value e.front e.first)
      (last-part frames (calls-only unit handler globals most q frames.value frames.front frames.first) end.none) in
      ap (λ (t : List ℕ). u8_bytes 1 ++ t) told
      ∙ sym (append_assoc (u8_bytes 1) (event_bytes e.value) (calls_bytes frames.value)) ∙ sym (ap rest_bytes end.same)

  dead-only : (p : ℕ) (r : Rest) (part : List ℕ) → Spelt dead_rest p r part → u8_bytes 2 ++ part ≡ rest_bytes r
  unfolding dead_rest
  dead-only p r part s =
      let t = parted s in
      let end = ended t.others in
      let fault = that-bytes U8 (λ f. nat_le 1 f && nat_le f 3) t.first in
      let within = and_parts (nat_le 1 t.value) (nat_le t.value 3) fault.holds in
      let again = fault-again t.value (grind (arith, nat_tests, within.0)) (grind (arith, nat_tests, within.1)) in
      ap (λ (u : List ℕ). u8_bytes 2 ++ u) (last-part t (fault.bytes ∙ ap u8_bytes again) end.none)
      ∙ sym (ap rest_bytes end.same)

  pub rest-only : (p : ℕ) (r : Rest) (part : List ℕ) → Spelt (rest unit state exits globals most) p r part
      → part ≡ rest_bytes r
  unfolding rest
  rest-only p r part s =
      let t = parted s in
      let kind = that-bytes U8 (λ n. nat_le n 2) t.first in
      both-parts t kind.bytes refl
      ∙ by t.value (grind (arith, nat_tests, kind.holds)) (p + length t.front) t.rest t.others
    where
      by : (n : ℕ) → n ≤ 2 → (q : ℕ) (behind : List ℕ) → Spelt (rest_of unit state exits globals most n) q r behind
          → u8_bytes n ++ behind ≡ rest_bytes r
      by zero small q behind h =
          let end = ended h in
          ap (λ (t : List ℕ). u8_bytes 0 ++ t) end.none ∙ append-nil (u8_bytes 0) ∙ sym (ap rest_bytes end.same)
      by (suc zero) small q behind h = saved-only q r behind h
      by (suc (suc n)) small q behind h =
          let two : n ≡ 0 = omega arith in
          ap (λ (m : ℕ). u8_bytes (suc (suc m)) ++ behind) two ∙ dead-only q r behind h
