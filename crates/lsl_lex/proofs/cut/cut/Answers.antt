use Rattle.std.proofs.Common.{◌≡◌, ◌-◌, ◌<◌, List, length, take, drop, sym, ap, subst, rules, arith, length-drop, None, true, ◌∙◌, append-nil}
use Rattle.std.specs.Prelude.{slice_index}
use Rattle.lsl_text.specs.Number.{is_blank}
use Rattle.std.proofs.lemmas.List.{take_rest}
use Rattle.lsl_lex.specs.Lexed.{IsRefused}
use Rattle.lsl_lex.specs.declared.token_types.Token.{Token}
use Rattle.lsl_lex.proofs.Lines.{found_in_line}
use Rattle.lsl_lex.proofs.Loop.{Cutting, rest_within, rest_valid, blank_right, cutting_more, found_right, refused_first, all_cut}
use Rattle.lsl_lex.proofs.cut.cut.Goals as goal

pub next-requires-clause-valid : goal.next-requires-clause-valid
next-requires-clause-valid c = rest_valid c.args.text.now c.pieces.rest.now c.pieces.list.items c.pieces.cursor
    c.requires c.pieces.invariant

pub returns-in-Err-clause-first : goal.returns-in-Err-clause-first
returns-in-Err-clause-first c =
    let some : 0 < length c.pieces.rest.now = search rules in
    subst (IsRefused c.args.text.now) (sym c.refused_at.ensures)
    (refused_first c.args.text.now c.pieces.rest.now c.pieces.list.items c.pieces.cursor c.in-Err.refusal
    c.requires some c.pieces.invariant c.in-Err.ensures)

pub pass-requires-clause-within : goal.pass-requires-clause-within
pass-requires-clause-within c =
    let some : 0 < length c.pieces.rest.now = search rules in
    let right = found_right c.pieces.rest.now c.in-Ok.piece some c.in-Ok.ensures in
    omega (
      arith,
      right.1,
      rest_within c.args.text.now c.pieces.rest.now c.pieces.list.items c.pieces.cursor
          c.pieces.invariant,
    )

pub pass-requires-clause-line : goal.pass-requires-clause-line
pass-requires-clause-line c =
    let some : 0 < length c.pieces.rest.now = search rules in
    let piece = c.in-Ok.piece in
    let right = found_right c.pieces.rest.now piece some c.in-Ok.ensures in
    found_in_line c.args.text.now c.pieces.rest.now piece.gives piece.length c.pieces.cursor.offset right
    c.pieces.invariant.left

pub pieces-smaller : goal.pieces-smaller
pieces-smaller c =
    let some : 0 < length c.pieces.rest.now = search rules in
    let right = found_right c.pieces.rest.now c.in-Ok.piece some c.in-Ok.ensures in
    omega (
      arith,
      right.0,
      right.1,
      ap length (take_rest c.pieces.rest.now c.in-Ok.piece.length),
      length-drop
          c.in-Ok.piece.length c.pieces.rest.now,
    )

pub pieces-preserved-then-is_blank : goal.pieces-preserved-then-is_blank
pieces-preserved-then-is_blank c =
    let rest = c.pieces.rest.now in
    let some : 0 < length rest = search rules in
    let blank : is_blank (slice_index rest 0) ≡ true = sym c.is_blank.ensures ∙ c.if-is_blank.true in
    let list = c.pieces.list.items in
    cutting_more c.args.text.now rest _ list list c.pieces.cursor c.step.new.self None 1 c.pieces.invariant
    (blank_right rest some blank) c.step.ensures.next (c.step.ensures.place c.pieces.invariant.place)
    (take_rest rest 1) (sym (append-nil list))

pub pieces-preserved : goal.pieces-preserved
pieces-preserved c =
    let some : 0 < length c.pieces.rest.now = search rules in
    let right = found_right c.pieces.rest.now c.in-Ok.piece some c.in-Ok.ensures in
    let k = c.in-Ok.piece.length in
    let rest = take (length c.pieces.rest.now - k) (drop k c.pieces.rest.now) in
    let tokens = rw c.span.ensures at c.in_ok-push_token.ensures in
    cutting_more c.args.text.now c.pieces.rest.now rest c.pieces.list.items c.push_token.new.list.items
    c.pieces.cursor c.pass.new.cursor c.in-Ok.piece.gives k c.pieces.invariant right
    c.pass.ensures.next c.pass.ensures.place (take_rest c.pieces.rest.now k) tokens

pub returns-clause-found : goal.returns-clause-found
returns-clause-found c =
    let empty : length c.pieces.rest.now ≡ 0 = search rules in
    let tokens = subst (λ (l : List Token). Cutting c.args.text.now c.pieces.rest.now l c.pieces.cursor)
    (sym c.from_vec.ensures) c.pieces.invariant in
    all_cut c.args.text.now c.pieces.rest.now (record { list = c.from_vec.result; end = c.span-2.result })
    c.pieces.cursor c.requires tokens empty c.span-2.ensures
