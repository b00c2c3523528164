-- How many bytes there were, by how many came.
use Rattle.std.proofs.Common.{◌≡◌, ℕ, ◌<◌, ◌≤◌, List, [], Option, Some, None, length, ap, length-append, arith}
use Rattle.std.specs.Io.KnownBytes.{Consumes, IsAtEnd}
use Rattle.top_call.specs.declared.status.Status.TheVariants.{Done, Usage, Job, Script, Long, Read, Write, Memory, Still}
use Rattle.top_call.specs.declared.status.Status.{Status}
use Rattle.chare_base.specs.declared.options.Options.{Options}
use Rattle.command_words.specs.declared.command.Command.{Command}
use Rattle.command_words.specs.declared.command.Command.TheVariants.{Drill}
use Rattle.top_call.specs.Due.{Came, DueBy, DueDrill, asked}
use Rattle.top_call.specs.Laws.{LongIsExact, SaysLength}

more : (bytes input : List ℕ) (left' : Option (List ℕ)) → Consumes (Some bytes) left' input → 262144 < length input → 262144 < length bytes
more bytes input None taken h = absurd taken
more bytes input (Some ys) taken h = omega (arith, ap length taken, length-append input ys, h)

fits : (bytes input : List ℕ) (left' : Option (List ℕ)) → Consumes (Some bytes) left' input → (length input < 262145 → IsAtEnd left') → length input ≤ 262144 → length bytes ≤ 262144
fits bytes input None taken end h = absurd taken
fits bytes input (Some ys) taken end h =
    let e : ys ≡ [] = end (omega (arith, h)) in
    omega (arith, ap length taken, length-append input ys, ap length e, h)

-- what is due to an input says how long it is
says : (o : Options) (schedule : ℕ) (bytes input text : List ℕ) (left' : Option (List ℕ)) (status : Status) → Came (Some bytes) left' input → DueDrill o schedule input status text → SaysLength (length bytes) status
says o schedule bytes input text left' Done came due = fits bytes input left' came.taken came.end due.0
says o schedule bytes input text left' Job came due = fits bytes input left' came.taken came.end due.0
says o schedule bytes input text left' Script came due = fits bytes input left' came.taken came.end due.0
says o schedule bytes input text left' Still came due = fits bytes input left' came.taken came.end due.0
says o schedule bytes input text left' Long came due = more bytes input left' came.taken due.0
says o schedule bytes input text left' Usage came due = tt
says o schedule bytes input text left' Read came due = tt
says o schedule bytes input text left' Write came due = tt
says o schedule bytes input text left' Memory came due = tt

due_says : (command : Option Command) (bytes text : List ℕ) (left' : Option (List ℕ)) (faults faults' : ℕ) (status : Status) → DueBy command (Some bytes) left' faults faults' status text →
    SaysLength (length bytes) status
due_says None bytes text left' faults faults' Usage due = tt
due_says None bytes text left' faults faults' Read due = tt
due_says None bytes text left' faults faults' Write due = tt
due_says None bytes text left' faults faults' Memory due = tt
due_says None bytes text left' faults faults' Done due = absurd due
due_says None bytes text left' faults faults' Job due = absurd due
due_says None bytes text left' faults faults' Script due = absurd due
due_says None bytes text left' faults faults' Long due = absurd due
due_says None bytes text left' faults faults' Still due = absurd due
due_says (Some (Drill o schedule)) bytes text left' faults faults' Read due = tt
due_says (Some (Drill o schedule)) bytes text left' faults faults' Usage due = tt
due_says (Some (Drill o schedule)) bytes text left' faults faults' Write due = tt
due_says (Some (Drill o schedule)) bytes text left' faults faults' Memory due = tt
due_says (Some (Drill o schedule)) bytes text left' faults faults' Done (input, came, due) = says o schedule bytes input text left' Done came due
due_says (Some (Drill o schedule)) bytes text left' faults faults' Job (input, came, due) = says o schedule bytes input text left' Job came due
due_says (Some (Drill o schedule)) bytes text left' faults faults' Script (input, came, due) = says o schedule bytes input text left' Script came due
due_says (Some (Drill o schedule)) bytes text left' faults faults' Long (input, came, due) = says o schedule bytes input text left' Long came due
due_says (Some (Drill o schedule)) bytes text left' faults faults' Still (input, came, due) = says o schedule bytes input text left' Still came due

pub exact : LongIsExact
exact words bytes left' faults faults' given given' count count' Done (text, due, all) = due_says (asked words) bytes text left' faults faults' Done due
exact words bytes left' faults faults' given given' count count' Usage h = tt
exact words bytes left' faults faults' given given' count count' Job (text, due, all) = due_says (asked words) bytes text left' faults faults' Job due
exact words bytes left' faults faults' given given' count count' Script (text, due, all) = due_says (asked words) bytes text left' faults faults' Script due
exact words bytes left' faults faults' given given' count count' Long (text, due, all) = due_says (asked words) bytes text left' faults faults' Long due
exact words bytes left' faults faults' given given' count count' Still (text, due, all) = due_says (asked words) bytes text left' faults faults' Still due
exact words bytes left' faults faults' given given' count count' Read h = tt
exact words bytes left' faults faults' given given' count count' Write h = tt
exact words bytes left' faults faults' given given' count count' Memory h = tt
