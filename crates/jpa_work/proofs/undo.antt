mod Undo
