-- Of the declarations that are written. All that is defined here is this project's own; each file names the sections of
-- both standards that it is about. Read Layout first: the layout and the words of a program. Parser: the states that
-- are written. Objects: objects by number. Controls: what a control declares, and the parts of a program. Rules: what
-- the rules of P4_16 ask of declarations. Laws: what is proved.
pub mod Layout
pub mod Parser
pub mod Objects
pub mod Controls
pub mod Rules
pub mod Laws
