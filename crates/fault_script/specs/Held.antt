-- How the code holds a line: its names in the text, and numbers up to 2^64.
use Rattle.std.specs.Prelude.{ℕ, List, Option}
use Rattle.std.specs.Option.{option_map}
use denote.Ref.{Bor}
use Rattle.fault_script.specs.declared.form.CellForm.{CellForm}
use Rattle.fault_script.specs.declared.form.CrashForm.{CrashForm}
use Rattle.fault_script.specs.declared.form.ElementForm.{ElementForm}
use Rattle.fault_script.specs.declared.form.FlipForm.{FlipForm}
use Rattle.fault_script.specs.declared.form.Form.{Form}
use Rattle.fault_script.specs.declared.form.Form.TheVariants as held
use Rattle.fault_script.specs.Forms.{Cell, CrashLine, Element, FlipLine, Line, Named}
use Rattle.fault_script.specs.Forms as forms
use Rattle.fault_script.specs.Numbers.{capped}

-- what the code's values say

abbrev pub name_held : Bor (List ℕ) × Option (Bor (List ℕ)) → Named
name_held x = record { name = x.0.now; inside = option_map (λ (t : Bor (List ℕ)). t.now) x.1 }

abbrev pub element_held : ElementForm → Element
element_held e = record { array = e.array.now; first = e.first; second = e.second }

abbrev pub cell_held : CellForm → Cell
cell_held c = record { state = c.state.now; place = c.place }

abbrev pub flip_held : FlipForm → FlipLine
flip_held f = record { replica = f.replica; element = element_held f.element; cell = cell_held f.cell; mask = f.mask; at = f.at }

abbrev pub crash_held : CrashForm → CrashLine
crash_held c = record { replica = c.replica; node = c.node; at = c.at }

abbrev pub line_held : Form → Line
line_held (held.Flip f) = forms.Flip (flip_held f)
line_held (held.Crash c) = forms.Crash (crash_held c)

-- a line with its numbers as they are held

abbrev pub element_capped : Element → Element
element_capped e = record { array = e.array; first = capped e.first; second = option_map capped e.second }

abbrev pub cell_capped : Cell → Cell
cell_capped c = record { state = c.state; place = option_map capped c.place }

abbrev pub flip_capped : FlipLine → FlipLine
flip_capped f = record { replica = capped f.replica; element = element_capped f.element; cell = cell_capped f.cell; mask = capped f.mask; at = capped f.at }

abbrev pub crash_capped : CrashLine → CrashLine
crash_capped c = record { replica = capped c.replica; node = capped c.node; at = capped c.at }

abbrev pub line_capped : Line → Line
line_capped (forms.Flip f) = forms.Flip (flip_capped f)
line_capped (forms.Crash c) = forms.Crash (crash_capped c)
