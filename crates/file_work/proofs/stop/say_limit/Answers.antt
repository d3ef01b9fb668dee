use Rattle.file_work.proofs.stop.say_limit.Goals as goal

pub returns-in-Program : goal.returns-in-Program
returns-in-Program g c = rw c.in-Program.is c.say.ensures

pub returns-in-Entries : goal.returns-in-Entries
returns-in-Entries g c = rw c.in-Entries.is c.say-in-Entries.ensures

pub returns-in-Ports : goal.returns-in-Ports
returns-in-Ports g c = rw c.in-Ports.is c.say-in-Ports.ensures

pub returns-in-Capture : goal.returns-in-Capture
returns-in-Capture g c = rw c.in-Capture.is c.say-in-Capture.ensures

pub returns-in-Text : goal.returns-in-Text
returns-in-Text g c = rw c.in-Text.is c.say-in-Text.ensures
