-- Lines of a report. Each ends with a line feed.
use Rattle.std.specs.Prelude.{ℕ, List, ◌++◌, codes}
use Rattle.std.specs.Fmt.{decimal}
use Rattle.hex.specs.Hex.{encode_lower}
use Rattle.chare_base.specs.declared.options.Mode.{Mode}
use Rattle.chare_base.specs.declared.options.Mode.TheVariants.{Strong, Medium, Weak}
use Rattle.chare_base.specs.declared.options.Options.{Options}
use Rattle.chare_base.specs.declared.plan.Plan.{Plan}
use Rattle.chare_base.specs.declared.slots.SlotId.{SlotId}
use Rattle.checkpoint_store.specs.declared.mark.Mark.{Mark}
use Rattle.run_report.specs.Names.{element_name}

abbrev pub mode_word : Mode → List ℕ
mode_word Strong = codes "strong"
mode_word Medium = codes "medium"
mode_word Weak = codes "weak"

-- the job and how it runs: job NAME nodes M every E spares S mode WORD
unfoldable pub first_line : Plan → Options → List ℕ
first_line p o =
    codes "job " ++ (p.name
    ++ (codes " nodes " ++ (decimal o.nodes
    ++ (codes " every " ++ (decimal o.every
    ++ (codes " spares " ++ (decimal o.spares
    ++ (codes " mode " ++ (mode_word o.mode ++ codes "\n")))))))))

-- which bytes a checkpoint has: bytes L sha256 H
unfoldable pub mark_text : Mark → List ℕ
mark_text mark = codes " bytes " ++ (decimal mark.length ++ (codes " sha256 " ++ encode_lower mark.digest))

-- an accepted checkpoint, and how many flips shaped it in each replica: accepted K bytes L sha256 H strikes P Q
unfoldable pub accepted_line : Mark → ℕ → ℕ → List ℕ
accepted_line mark first second =
    codes "accepted " ++ (decimal mark.k
    ++ (mark_text mark
    ++ (codes " strikes " ++ (decimal first ++ (codes " " ++ (decimal second ++ codes "\n"))))))

-- checkpoints that differ, in an element first: differ K ELEMENT back K0
unfoldable pub differ_line : Plan → ℕ → ℕ → ℕ → List ℕ
differ_line p k e base = codes "differ " ++ (decimal k ++ (codes " " ++ (element_name p e ++ (codes " back " ++ (decimal base ++ codes "\n")))))

-- a slot that crashed, by a line of the script's text: crash R J line X
unfoldable pub crash_line : SlotId → ℕ → List ℕ
crash_line slot line = codes "crash " ++ (decimal slot.replica ++ (codes " " ++ (decimal slot.node ++ (codes " line " ++ (decimal line ++ codes "\n")))))

-- a replica that is up again: mend R from K0
unfoldable pub mend_line : ℕ → ℕ → List ℕ
mend_line replica base = codes "mend " ++ (decimal replica ++ (codes " from " ++ (decimal base ++ codes "\n")))

-- a checkpoint of one replica, and how many of its flips shaped it: adopted K from R bytes L sha256 H strikes P
unfoldable pub adopted_line : Mark → ℕ → ℕ → List ℕ
adopted_line mark from strikes =
    codes "adopted " ++ (decimal mark.k
    ++ (codes " from " ++ (decimal from
    ++ (mark_text mark
    ++ (codes " strikes " ++ (decimal strikes ++ codes "\n"))))))

-- both replicas are up again: both back K0
unfoldable pub both_line : ℕ → List ℕ
both_line base = codes "both back " ++ (decimal base ++ codes "\n")

-- no copy is left of what the base has of a node: end lost J
unfoldable pub lost_line : ℕ → List ℕ
lost_line node = codes "end lost " ++ (decimal node ++ codes "\n")

abbrev pub no_spare_line : List ℕ
no_spare_line = codes "end no spare\n"

-- the head of a plain run: plain NAME iterations N
unfoldable pub plain_head : Plan → List ℕ
plain_head p = codes "plain " ++ (p.name ++ (codes " iterations " ++ (decimal p.iterations ++ codes "\n")))
