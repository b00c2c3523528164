-- The clause of the top call, from the text that is due and what was given of it.
use Rattle.std.proofs.Common.{◌≡◌, ℕ, List, [], Option, Some, None, Result, Ok, Err, inl, inr, refl, sym, subst, codes}
use Rattle.std.specs.Prelude.{MatchResult}
use Rattle.std.specs.declared.string.String.{String}
use Rattle.std.specs.declared.alloc.Global.{Global}
use Rattle.std.specs.declared.process.ExitCode.{ExitCode}
use Rattle.std.specs.Process.{exit_status}
use Rattle.std.specs.Io.KnownBytes.{Appends}
use Rattle.std.proofs.KnownBytes.{Appends-nil}
use Rattle.top_call.specs.declared.status.Status.{Status}
use Rattle.top_call.specs.declared.status.Status.TheVariants.{Done, Usage, Job, Script, Long, Read, Write, Memory, Still}
use Rattle.top_call.specs.Due.{Answers, Came, Due, DueAfter, DueBy, DueText, Ends, Written, asked, code_of}
use Rattle.command_words.specs.declared.command.Command.{Command}
use Rattle.command_words.specs.declared.command.Command.TheVariants.{Drill}

-- Where no words came for want of memory, the process ends with that.
pub no_words : {T E : Type 0} (words : Result T E) (fault : E) (Comes : T → Type 0) (left : Option (List ℕ)) (faults : ℕ) (given : Option (List ℕ)) (count : ℕ) (code : ExitCode) → words ≡ Err fault →
    exit_status code ≡ code_of Memory → MatchResult words Comes (λ _. Ends [] left left faults faults given given count count code)
no_words (Ok x) fault Comes left faults given count code is ends = absurd cc
no_words (Err x) fault Comes left faults given count code is ends = (Memory, Appends-nil given, ends)

-- words that are no command
pub usage : (words : List (String Global)) (left : Option (List ℕ)) (faults : ℕ) → asked words ≡ None → DueText words left left faults faults Usage (codes "usage\n")
usage words left faults none = subst (λ (c : Option Command). DueBy c left left faults faults Usage (codes "usage\n")) (sym none) (refl, refl)

module _ (words : List (String Global)) (left left' : Option (List ℕ)) (faults faults' : ℕ) (given given' : Option (List ℕ)) (count count' : ℕ) (text : List ℕ) where
  abbrev Clause : Status → Type 0
  Clause = Answers words left left' faults faults' given given' count count'

  abbrev IsDue : Status → Type 0
  IsDue status = DueText words left left' faults faults' status text

  none_written : (c : Option Command) → DueBy c left left' faults faults' Write text → ⊥
  none_written None due = due
  none_written (Some (Drill o schedule)) (input, came, (fits, (p, is, (lines, reads, kept, due)))) = due

  none_kept : (c : Option Command) → DueBy c left left' faults faults' Memory text → ⊥
  none_kept None due = due
  none_kept (Some (Drill o schedule)) (input, came, (fits, (p, is, (lines, reads, kept, due)))) = due

  whole : (status : Status) → IsDue status → Appends given given' text → Clause status
  whole Done due all = (text, due, all)
  whole Usage due all = (text, due, all)
  whole Job due all = (text, due, all)
  whole Script due all = (text, due, all)
  whole Long due all = (text, due, all)
  whole Read due all = (text, due, all)
  whole Still due all = (text, due, all)
  whole Write due all = absurd (none_written (asked words) due)
  whole Memory due all = absurd (none_kept (asked words) due)

  pub answered : (status result : Status) → IsDue status → Written given given' count count' status text result → Clause result
  answered status result due (inl w) = subst Clause (sym w.0) (whole status due w.1)
  answered status result due (inr w) = subst Clause (sym w.0) (w.1, (status, text, due, w.2))

  -- the text that is due to an input
  after : (command : Command) (input : List ℕ) → Came left left' input → (status : Status) → Due command input status text → DueAfter command left left' faults faults' status text
  after command input came Done due = (input, came, due)
  after command input came Usage due = (input, came, due)
  after command input came Job due = (input, came, due)
  after command input came Script due = (input, came, due)
  after command input came Long due = (input, came, due)
  after command input came Still due = (input, came, due)
  after (Drill o schedule) input came Read (fits, (p, is, (lines, reads, kept, due))) = absurd due
  after (Drill o schedule) input came Write (fits, (p, is, (lines, reads, kept, due))) = absurd due
  after (Drill o schedule) input came Memory (fits, (p, is, (lines, reads, kept, due))) = absurd due

  pub due_of : (command : Command) (input piece made : List ℕ) (status : Status) → asked words ≡ Some command → Came left left' input → piece ≡ input → text ≡ made → Due command piece status made → IsDue status
  due_of command input piece made status asks came same is due =
      subst (λ (c : Option Command). DueBy c left left' faults faults' status text) (sym asks)
      (after command input came status (subst (λ t. Due command input status t) (sym is) (subst (λ i. Due command i status made) same due)))

  pub failed_of : (command : Command) → asked words ≡ Some command → DueAfter command left left' faults faults' Read text → IsDue Read
  failed_of command asks due = subst (λ (c : Option Command). DueBy c left left' faults faults' Read text) (sym asks) due
