-- All splices of one call as one group, with grouping on.
use Rattle.std.specs.Prelude.{◌&&◌, Bool, not, if◌then◌else◌}
use Rattle.textarea_history.specs.Groups.{is_open, opened}
use Rattle.textarea_history.specs.Log.{group_begun, group_ended}
use Rattle.textarea_history.specs.declared.history.groups.Group.{Group}
use Rattle.textarea_history.specs.declared.history.groups.Group.TheVariants.{Closed}
use Rattle.textarea_document.specs.Outcomes.{run_ended}
use Rattle.tui_textarea.specs.State.{State, with_document}

-- a call opens a group: with grouping on, if none is open
abbrev pub opens_group : State → Bool
opens_group state = state.settings.undo_grouping && not (is_open state.document.log.group)

-- the state with this as its open group; a run of typing goes on
abbrev pub with_group : State → Group → State
with_group state group =
    with_document state (record state.document { log = record state.document.log { group = group } })

-- the state in which a call makes its splices: in a group of their own, if the call opens one
abbrev pub call_begun : State → State
call_begun state =
    with_group state (if opens_group state then opened state.document.log.group else state.document.log.group)

-- the state after them, once the group is closed that the call opened, if it did
abbrev pub closed_if : Bool → State → State
closed_if opens state = with_group state (if opens then Closed else state.document.log.group)

abbrev pub call_ended : State → State → State
call_ended old new = closed_if (opens_group old) new

-- ---- groups and runs by hand

abbrev pub undo_group_begun : State → State
undo_group_begun state =
    with_document state (record state.document { log = group_begun state.document.log })

abbrev pub undo_group_ended : State → State
undo_group_ended state =
    with_document state (record state.document { log = group_ended state.document.log })

abbrev pub typing_ended : State → State
typing_ended state = with_document state (record state.document { log = run_ended state.document.log })
