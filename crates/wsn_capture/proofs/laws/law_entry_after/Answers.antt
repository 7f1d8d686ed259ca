use Rattle.wsn_capture.proofs.SideEntries.{accepted_entry, first_fault, entry_accepted, fault_first, fits_line}
use Rattle.wsn_capture.proofs.SideLaws.{room_after}
use Rattle.wsn_capture.proofs.laws.law_entry_after.Goals as goal

pub returns-clause-accepted : goal.returns-clause-accepted
returns-clause-accepted c = λ limits lines given line entry most taken.
    let room = room_after limits most lines given taken in
    ((λ is. entry_accepted limits given line entry is (fits_line limits given line entry room is)), accepted_entry limits given line entry)

pub returns-clause-faulty : goal.returns-clause-faulty
returns-clause-faulty c = λ limits lines given line fault most taken.
    (fault_first limits given line fault, first_fault limits given line (room_after limits most lines given taken) fault)
