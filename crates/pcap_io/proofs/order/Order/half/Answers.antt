use Rattle.pcap_io.proofs.Words.{half_little, half_big}
use Rattle.pcap_io.proofs.order.Order.half.Goals as goal

pub returns-in-Little : goal.returns-in-Little
returns-in-Little c = half_little _ _ _ _ _ c.in-Little.is c.split_at.ensures.back c.read_u16.ensures

pub returns-in-Big : goal.returns-in-Big
returns-in-Big c = half_big _ _ _ _ _ c.in-Big.is c.split_at.ensures.back c.read_u16-in-Big.ensures
