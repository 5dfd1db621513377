use Rattle.std.proofs.Common.{◌∙◌, sym, ap, arith, ℕ, List, length, get_or, Option}
use Rattle.lsl_code.specs.declared.woven_functions.WovenCode.{WovenCode}
use Rattle.lsl_code.specs.Naming.{lines_in}
use Rattle.lsl_code.proofs.Lined.{function_is, lines_long}
use Rattle.lsl_code.proofs.woven_units.Woven.line.Goals as goal

pub bounds-as_slice-from-2 : goal.bounds-as_slice-from-2
bounds-as_slice-from-2 c =
    let unit = c.args.self.now in
    let code = c.requires.0 in
    let is = function_is unit.functions c.as_slice.result.now c.args.function c.from.result
    c.index-as_slice-from.result code c.as_slice.ensures c.from.ensures c.index-as_slice-from.is c.requires.1 in
    let lines = c.as_slice-2.ensures ∙ ap (λ (w : WovenCode). w.lines) (sym c.index-as_slice-from.is ∙ is) in
    omega (
      arith,
      c.from-2.ensures,
      ap (λ (l : List ℕ). length l) lines,
      lines_long unit c.args.function code c.requires.1,
      c.requires.2,
    )

pub returns : goal.returns
returns c =
    let unit = c.args.self.now in
    let code = c.requires.0 in
    let is = function_is unit.functions c.as_slice.result.now c.args.function c.from.result
    c.index-as_slice-from.result code c.as_slice.ensures c.from.ensures c.index-as_slice-from.is c.requires.1 in
    let lines = c.as_slice-2.ensures ∙ ap (λ (w : WovenCode). w.lines) (sym c.index-as_slice-from.is ∙ is) in
    ap (λ (l : List ℕ). get_or l c.from-2.result 0) lines
    ∙ ap (λ (k : ℕ). get_or code.lines k 0) c.from-2.ensures
    ∙ ap (λ (o : Option WovenCode). get_or (lines_in o) c.args.point 0) (sym c.requires.1)
