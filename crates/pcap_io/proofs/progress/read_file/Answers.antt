use Rattle.pcap_io.proofs.Opening.{held_unread, held_refused, held_opened}
use Rattle.pcap_io.proofs.progress.read_file.Goals as goal

pub returns-then-octets-lt-FILE_HEADER-clause-read : goal.returns-then-octets-lt-FILE_HEADER-clause-read
returns-then-octets-lt-FILE_HEADER-clause-read c = held_unread _ _ c.if-octets-lt-FILE_HEADER.true

pub returns-in_ok-progress-in-Ok-clause-read : goal.returns-in_ok-progress-in-Ok-clause-read
returns-in_ok-progress-in-Ok-clause-read c =
    held_opened _ _ _ _ c.in-Ok.head c.in_ok-progress-in-Ok.progress c.if-octets-lt-FILE_HEADER.false c.in-Ok.ensures c.split_at.ensures.back c.in_ok-progress-in-Ok.ensures.read

pub returns-in-Err-clause-read : goal.returns-in-Err-clause-read
returns-in-Err-clause-read c = held_refused _ _ _ c.if-octets-lt-FILE_HEADER.false c.in-Err.ensures
