-- What the forms of built-in calls say about their rows: which have a result, and which take nothing.
use Rattle.std.proofs.Common.{◌≡◌, Bool, true, false, ◌&&◌, nat_eq, List, [], ◌∷◌, Option, Some, length, refl}
use Rattle.std.specs.Prelude.{is_some, is_none}
use Rattle.lsl_value.specs.declared.names.BuiltinId.{BuiltinId}
use Rattle.lsl_value.specs.declared.names.BuiltinId.TheVariants as builtin
use Rattle.lsl_value.specs.declared.tagged.Kind.{Kind}
use Rattle.lsl_value.specs.declared.tagged.Kind.TheVariants as kind
use Rattle.lsl_table.specs.Calls.{CallRow, row_of}
use Rattle.lsl_running.specs.Calling as form
use Rattle.lsl_running.specs.Calling.{CallForm, call_form}

abbrev pub gives_integer : Option Kind → Bool
gives_integer (Some kind.Int) = true
gives_integer result = false

abbrev pub takes_integer : List Kind → Bool
takes_integer (kind.Int ∷ []) = true
takes_integer params = false

abbrev pub fits_form : CallForm → CallRow → Bool
fits_form form.Pure row = is_some row.result
fits_form form.UsedMemory row = nat_eq (length row.params) 0 && gives_integer row.result
fits_form form.FreeMemory row = nat_eq (length row.params) 0 && gives_integer row.result
fits_form form.SetLimit row = takes_integer row.params && gives_integer row.result
fits_form form.GetLimit row = nat_eq (length row.params) 0 && gives_integer row.result
fits_form form.Resets row = is_none row.result
fits_form form row = true

pub form_fits : (id : BuiltinId) → fits_form (call_form id) (row_of id) ≡ true
form_fits builtin.GetUsedMemory = refl
form_fits id = refl

pub integer_taken : (params : List Kind) → takes_integer params ≡ true → params ≡ kind.Int ∷ []
integer_taken (kind.Int ∷ []) e = refl
integer_taken params e = absurd cc

pub integer_given : (result : Option Kind) → gives_integer result ≡ true → result ≡ Some kind.Int
integer_given (Some kind.Int) e = refl
integer_given result e = absurd cc
