use Rattle.world_core.proofs.Slots.{may_make}
use Rattle.world_core.proofs.slot.Slot.make.Goals as goal

pub shift-requires-in-Rewind-clause-may : goal.shift-requires-in-Rewind-clause-may
shift-requires-in-Rewind-clause-may g c = (may_make c.args.setting.now.plan c.args.cut.now c.args.self.now c.args.due c.requires.due).0

pub shift-requires-in-Release-clause-may : goal.shift-requires-in-Release-clause-may
shift-requires-in-Release-clause-may g c = (may_make c.args.setting.now.plan c.args.cut.now c.args.self.now c.args.due c.requires.due).0

pub shift-requires-in-Report-clause-may : goal.shift-requires-in-Report-clause-may
shift-requires-in-Report-clause-may g c = (may_make c.args.setting.now.plan c.args.cut.now c.args.self.now c.args.due c.requires.due).0

pub shift-requires-in-Begin-clause-may : goal.shift-requires-in-Begin-clause-may
shift-requires-in-Begin-clause-may g c = (may_make c.args.setting.now.plan c.args.cut.now c.args.self.now c.args.due c.requires.due).0
