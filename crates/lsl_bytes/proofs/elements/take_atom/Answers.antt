use Rattle.std.proofs.Common.{◌≡◌, arith}
use Rattle.lsl_bytes.specs.Fields.{FitsI32, IsAtom, i32_bytes, text_bytes, atom_bytes}
use Rattle.std.specs.Int.{w32, cast_signed, cast_unsigned}
use Rattle.std.proofs.lemmas.Int.{to_z-of_z}
use Rattle.lsl_value.specs.Text.{IsText}
use Rattle.lsl_bytes.proofs.AtomLemmas.{atom-int, atom-key, atom-no_tag, atom-other_tag, atom-spelled, atom-str, int-found, key-found, str-found, tagged-none}
use Rattle.lsl_bytes.proofs.elements.take_atom.Goals as goal

pub returns-in_default : goal.returns-in_default
returns-in_default c = atom-no_tag c.args.bytes.now c.args.place c.in_default.ensures

pub returns-in-Some-take_i32 : goal.returns-in-Some-take_i32
returns-in-Some-take_i32 c =
    let tagged = rw c.in-1.is at c.in-Some.ensures in
    let takes = c.in-Some-take_i32.ensures in
    let same : cast_signed w32 (cast_unsigned w32 c.in-Some-take_i32.n) ≡ c.in-Some-take_i32.n =
    to_z-of_z w32 c.in-Some-take_i32.n takes.found.0 in
    rw same (int-found c.args.bytes.now c.args.place c.in-Some.next c.in-Some-take_i32.n c.in-Some-take_i32.next
    tagged takes)

pub returns-in-None : goal.returns-in-None
returns-in-None c =
    let tagged = rw c.in-1.is at c.in-Some.ensures in
    tagged-none i32_bytes FitsI32 atom_bytes IsAtom c.args.bytes.now c.args.place 1 c.in-Some.next atom-int
    atom-spelled tagged c.in-None.ensures

pub returns-in-Some-2 : goal.returns-in-Some-2
returns-in-Some-2 c =
    let tagged = rw c.in-3.is at c.in-Some.ensures in
    str-found c.args.bytes.now c.args.place c.in-Some.next c.in-Some-2.text c.in-Some-2.next tagged
    (rw c.in-Some-2.is at c.in_ok-text-in-3.ensures)

pub returns-in-None-2 : goal.returns-in-None-2
returns-in-None-2 c =
    let tagged = rw c.in-3.is at c.in-Some.ensures in
    tagged-none text_bytes IsText atom_bytes IsAtom c.args.bytes.now c.args.place 3 c.in-Some.next atom-str
    atom-spelled tagged (rw c.in-None-2.is at c.in_ok-text-in-3.ensures)

pub returns-in-Some-3 : goal.returns-in-Some-3
returns-in-Some-3 c =
    let tagged = rw c.in-4.is at c.in-Some.ensures in
    key-found c.args.bytes.now c.args.place c.in-Some.next c.in-Some-3.text c.in-Some-3.next tagged
    (rw c.in-Some-3.is at c.in_ok-text-in-4.ensures)

pub returns-in-None-3 : goal.returns-in-None-3
returns-in-None-3 c =
    let tagged = rw c.in-4.is at c.in-Some.ensures in
    tagged-none text_bytes IsText atom_bytes IsAtom c.args.bytes.now c.args.place 4 c.in-Some.next atom-key
    atom-spelled tagged (rw c.in-None-3.is at c.in_ok-text-in-4.ensures)

pub returns-in_default-tag : goal.returns-in_default-tag
returns-in_default-tag c =
    atom-other_tag c.args.bytes.now c.args.place c.in-Some.tag c.in-Some.next c.in-Some.ensures
    (λ e. omega arith) (λ e. omega arith) (λ e. omega arith)
