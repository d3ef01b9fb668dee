use Rattle.pcap_io.proofs.Words.{word_little, word_big}
use Rattle.pcap_io.proofs.order.Order.word.Goals as goal

pub returns-in-Little : goal.returns-in-Little
returns-in-Little c = word_little _ _ _ _ _ c.in-Little.is c.split_at.ensures.back c.read_u32.ensures

pub returns-in-Big : goal.returns-in-Big
returns-in-Big c = word_big _ _ _ _ _ c.in-Big.is c.split_at.ensures.back c.read_u32-in-Big.ensures
