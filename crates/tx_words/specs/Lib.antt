-- In reading order.
-- The command line as `clap` sees it: the program's command with its three subcommands and their arguments.
pub mod CommandLine
-- What the words of a command line ask for: clap's own function of a simple command, for the command of `CommandLine`.
pub mod Words
-- Command lines with what they ask for, as facts of the definition.
pub mod Laws
