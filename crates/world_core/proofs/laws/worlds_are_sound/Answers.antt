use Rattle.world_core.proofs.Beginning.{reached_sound, start_sound}
use Rattle.world_core.proofs.Passing.{event_keeps}
use Rattle.world_core.proofs.Sides.{Known}
use Rattle.world_core.proofs.laws.worlds_are_sound.Goals as goal

-- the laws of the layers below
known : goal.After-chains_grow → Known
known c = record {
  starts = c.nodes_keep.ensures.starts;
  runs = c.nodes_keep.ensures.runs;
  packs = c.nodes_keep.ensures.packs;
  hears = c.nodes_keep.ensures.hears;
  rest = c.nodes_keep.ensures.orders;
  opens = c.conductors_tell.ensures.starts;
  tells = c.conductors_tell.ensures.hears;
  did = c.conductors_tell.ensures.did;
  begins = c.cuts_hold.ensures.start;
  keeps = c.cuts_hold.ensures.moves;
  each = c.moves_are_local.ensures.slot;
  others = c.moves_are_local.ensures.others;
  stays = c.moves_are_local.ensures.round;
  notes = c.moves_are_local.ensures.notes;
  counted = c.moves_are_local.ensures.number;
  one = c.chains_grow.ensures.one;
  all = c.chains_grow.ensures.all;
  mail = c.chains_grow.ensures.mail;
}

pub returns-clause-start : goal.returns-clause-start
returns-clause-start c = start_sound (known c)

pub returns-clause-event : goal.returns-clause-event
returns-clause-event c = event_keeps (known c)

pub returns-clause-all : goal.returns-clause-all
returns-clause-all c = reached_sound (start_sound (known c)) (event_keeps (known c))
