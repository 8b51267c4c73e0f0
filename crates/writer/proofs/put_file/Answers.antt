-- `put_file` meets its contract: the header, the accepting records, the transitions and the end are what is written, one after the other.
-- Assumes nothing.
use Rattle.writer.proofs.PutFile.{header_room, accepting_room, transitions_room, end_room, all_done}
use Rattle.writer.proofs.put_file.Goals as goal

pub put_header-requires : goal.put_header-requires
put_header-requires c = header_room c.args.valid.automaton.now c.args.out.now c.requires

pub put_accepting-requires : goal.put_accepting-requires
put_accepting-requires c = accepting_room c.args.valid.automaton.now c.args.out.now c.requires c.put_header.ensures

pub put_transitions-requires : goal.put_transitions-requires
put_transitions-requires c = transitions_room c.args.valid.automaton.now c.args.out.now c.requires c.put_header.ensures c.put_accepting.ensures

pub put_end-requires : goal.put_end-requires
put_end-requires c =
    end_room c.args.valid.automaton.now c.args.out.now c.requires c.put_header.ensures c.put_accepting.ensures c.put_transitions.ensures

pub returns : goal.returns
returns c =
    all_done c.args.valid.automaton.now c.args.out.now c.requires c.put_header.ensures c.put_accepting.ensures c.put_transitions.ensures
    c.put_end.ensures
