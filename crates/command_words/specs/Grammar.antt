-- The command grammar, over words as bytes.
use Rattle.std.specs.Prelude.{◌≡◌, ℕ, ◌≤◌, ◌^◌, ◌-◌, if◌then◌else◌, List, [], ◌∷◌, codes, length, take, drop, Option, Some, None, IfSome, unwrap_or}
use Rattle.std.specs.Str.{bytes_eq}
use Rattle.chare_base.specs.declared.options.Mode.TheVariants.{Strong}
use Rattle.command_words.specs.declared.command.Command.{Command}
use Rattle.command_words.specs.declared.command.Command.TheVariants.{Drill}
use Rattle.command_words.specs.declared.command.Given.{Given}
use Rattle.command_words.specs.declared.command.OptionName.{OptionName}
use Rattle.command_words.specs.declared.command.OptionName.TheVariants.{Nodes, Every, Schedule}
use Rattle.command_words.specs.declared.words.Reading.{Reading}
use Rattle.command_words.specs.Numbers.{number_in}

-- ---- options

abbrev pub none_given : Given
none_given = record { nodes = None; every = None; schedule = None }

-- an option is given once, in its range
abbrev pub given_nodes : Given → Option ℕ → Option ℕ → Option Given
given_nodes given None (Some n) = Some (record given { nodes = Some n })
given_nodes given None None = None
given_nodes given (Some old) n = None

abbrev pub given_every : Given → Option ℕ → Option ℕ → Option Given
given_every given None (Some n) = Some (record given { every = Some n })
given_every given None None = None
given_every given (Some old) n = None

abbrev pub given_schedule : Given → Option ℕ → Option ℕ → Option Given
given_schedule given None (Some n) = Some (record given { schedule = Some n })
given_schedule given None None = None
given_schedule given (Some old) n = None

abbrev pub given_with : Given → OptionName → List ℕ → Option Given
given_with given Nodes text = given_nodes given given.nodes (number_in 1 32 text)
given_with given Every text = given_every given given.every (number_in 1 1000000 text)
given_with given Schedule text = given_schedule given given.schedule (number_in 0 (2 ^ 64 - 1) text)

-- what stands behind a prefix
abbrev pub behind : List ℕ → List ℕ → Option (List ℕ)
behind prefix word = if bytes_eq (take (length prefix) word) prefix then Some (drop (length prefix) word) else None

-- ---- words, one after another

-- The options so far, and the one whose value comes next. None: the words are no command.
abbrev pub Read : Type 0
Read = Option Reading

abbrev pub given_so : Option Given → Read
given_so None = None
given_so (Some given) = Some (record { given = given; waits = None })

abbrev pub waiting : Given → OptionName → Read
waiting given name = Some (record { given = given; waits = Some name })

-- an option with its value in one word
abbrev pub joined_schedule : Given → Option (List ℕ) → Read
joined_schedule given None = None
joined_schedule given (Some text) = given_so (given_with given Schedule text)

abbrev pub joined_every : Given → List ℕ → Option (List ℕ) → Read
joined_every given word None = joined_schedule given (behind (codes "--schedule=") word)
joined_every given word (Some text) = given_so (given_with given Every text)

abbrev pub joined_nodes : Given → List ℕ → Option (List ℕ) → Read
joined_nodes given word None = joined_every given word (behind (codes "--every=") word)
joined_nodes given word (Some text) = given_so (given_with given Nodes text)

-- an option's name, alone or with its value
abbrev pub option_read : Given → List ℕ → Read
option_read given word =
    if bytes_eq word (codes "--nodes") then waiting given Nodes
    else (if bytes_eq word (codes "--every") then waiting given Every
    else (if bytes_eq word (codes "--schedule") then waiting given Schedule
    else joined_nodes given word (behind (codes "--nodes=") word)))

abbrev pub word_read_by : Given → Option OptionName → List ℕ → Read
word_read_by given (Some name) word = given_so (given_with given name word)
word_read_by given None word = option_read given word

abbrev pub word_read : Reading → List ℕ → Read
word_read r word = word_read_by r.given r.waits word

abbrev pub next_read : Read → List ℕ → Read
next_read None word = None
next_read (Some r) word = word_read r word

abbrev pub words_read : Read → List (List ℕ) → Read
words_read read [] = read
words_read read (word ∷ more) = words_read (next_read read word) more

-- ---- the command

abbrev pub drill_with : Given → Command
drill_with given = Drill (record { nodes = unwrap_or given.nodes 1; every = unwrap_or given.every 10; spares = 0; mode = Strong }) (unwrap_or given.schedule 0)

abbrev pub finished : Option OptionName → Given → Option Command
finished None given = Some (drill_with given)
finished (Some name) given = None

abbrev pub command_from : Read → Option Command
command_from None = None
command_from (Some r) = finished r.waits r.given

-- what the words ask for
unfoldable pub command_in : List (List ℕ) → Option Command
command_in [] = None
command_in (word ∷ more) = if bytes_eq word (codes "drill") then command_from (words_read (Some (record { given = none_given; waits = None })) more) else None

-- ---- what is known of a command, and of what was given

-- its options are within their limits; the mode is strong, as no word names another
abbrev pub Bounded : Command → Type 0
Bounded (Drill o schedule) = (1 ≤ o.nodes) × (o.nodes ≤ 32) × (1 ≤ o.every) × (o.every ≤ 1000000) × (o.mode ≡ Strong)

abbrev pub NodesFit : Option ℕ → Type 0
NodesFit nodes = IfSome nodes (λ n. (1 ≤ n) × (n ≤ 32))

abbrev pub EveryFit : Option ℕ → Type 0
EveryFit every = IfSome every (λ n. (1 ≤ n) × (n ≤ 1000000))

-- what was given is within its limits
abbrev pub Fit : Given → Type 0
Fit given = NodesFit given.nodes × EveryFit given.every
