-- Why a file can't be read or saved, in words.
use Rattle.std.specs.Prelude.{ℕ, List, codes}
use Rattle.textarea_files.specs.declared.trouble.Trouble.{Trouble}
use Rattle.textarea_files.specs.declared.trouble.Trouble.TheVariants as trouble

-- why a file can't be read or saved
abbrev pub full_reason : Trouble → List ℕ
full_reason trouble.NotText = codes "it is not UTF-8 text"
full_reason trouble.Folder = codes "it is a folder"
full_reason trouble.NotFile = codes "it is not a regular file"
full_reason trouble.Rights = codes "permission denied"
full_reason trouble.DiskFull = codes "the disk is full"
full_reason trouble.NoFolder = codes "its folder does not exist"
full_reason trouble.ReadOnly = codes "the file system is read-only"
full_reason trouble.Memory = codes "out of memory"
full_reason trouble.InPart = codes "it is written in part; the copy .taedit-1 is whole"
full_reason trouble.Other = codes "the file system reports an error"

-- the same in few words
abbrev pub short_reason : Trouble → List ℕ
short_reason trouble.NotText = codes "not UTF-8"
short_reason trouble.Folder = codes "it is a folder"
short_reason trouble.NotFile = codes "no regular file"
short_reason trouble.Rights = codes "not permitted"
short_reason trouble.DiskFull = codes "disk full"
short_reason trouble.NoFolder = codes "no such folder"
short_reason trouble.ReadOnly = codes "read-only disk"
short_reason trouble.Memory = codes "out of memory"
short_reason trouble.InPart = codes "in part; .taedit-1"
short_reason trouble.Other = codes "disk error"
