use Rattle.std.proofs.Common.{rules}
use Rattle.wsn_plan.proofs.walking.Walk.reason_against.Goals as goal

pub returns-in-Piece : goal.returns-in-Piece
returns-in-Piece g c = rw c.in-Piece.is c.against_piece.ensures

pub returns-in-Last : goal.returns-in-Last
returns-in-Last g c = rw c.in-Last.is c.against_last.ensures

pub returns-in-Control : goal.returns-in-Control
returns-in-Control g c = rw c.in-Control.is (c.against_control.ensures c.args.limits)

pub against_piece-requires : goal.against_piece-requires
against_piece-requires g c = record { placed = search rules; few = search rules }

pub against_last-requires : goal.against_last-requires
against_last-requires g c = search rules

pub against_control-requires : goal.against_control-requires
against_control-requires g c = search rules
