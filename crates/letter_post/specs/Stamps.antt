-- Stamps, and the flips of their lines.
use Rattle.std.specs.Prelude.{Bool, ◌==◌, ◌&&◌, List}
use Rattle.chare_base.specs.Flip.{Flip}
use Rattle.fault_script.specs.declared.fault.Fault.{Fault}
use Rattle.fault_script.specs.Lines.{flips_in}
use Rattle.letter_post.specs.declared.stamp.Stamp.{Stamp}

abbrev pub same_stamp : Stamp → Stamp → Bool
same_stamp a b = a.replica == b.replica && a.epoch == b.epoch && a.lines.0 == b.lines.0

-- the flips under which a letter or a node with this stamp is true
abbrev pub lines_of : List Fault → Stamp → List Flip
lines_of script stamp = flips_in script stamp.lines.0
