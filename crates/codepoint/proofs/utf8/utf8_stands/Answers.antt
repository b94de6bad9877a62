use Rattle.codepoint.proofs.Sequences.{well_formed_is_encoded}
use Rattle.codepoint.proofs.Utf8Laws.{decodes_back, bytes_tell_apart}
use Rattle.codepoint.proofs.utf8.utf8_stands.Goals as goal

pub returns : goal.returns
returns c = record { well_formed = well_formed_is_encoded; back = decodes_back; apart = bytes_tell_apart }
